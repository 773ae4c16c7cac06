-- `record_read::list_at_most` meets its contract. Assumes nothing.
use Rattle.record_read.proofs.Seen.{list_seen}
use Rattle.record_read.proofs.list_at_most.Goals as goal

pub returns : goal.returns
returns c =
    list_seen c.args.bytes.now c.args.l c.args.k c.args.most c.place.ensures c.count.ensures c.wide.ensures c.all_at_most.ensures
