-- `record_read::adds_up` meets its contract. Assumes nothing.
use Rattle.record_read.proofs.Seen.{sum_seen}
use Rattle.record_read.proofs.adds_up.Goals as goal

pub returns : goal.returns
returns c = sum_seen c.args.bytes.now c.args.l c.at_trailer.ensures c.word_count.ensures
