-- `record_read::leads_back` meets its contract. Assumes nothing.
use Rattle.record_read.proofs.Seen.{back_seen}
use Rattle.record_read.proofs.leads_back.Goals as goal

pub returns : goal.returns
returns c =
    back_seen c.args.bytes.now c.args.l c.trailer_word.ensures c.wide.ensures c.at_trailer.ensures
