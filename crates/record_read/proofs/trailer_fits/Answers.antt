-- `record_read::trailer_fits` meets its contract. Assumes nothing.
use Rattle.record_read.proofs.Seen.{trailer_seen}
use Rattle.record_read.proofs.trailer_fits.Goals as goal

pub returns : goal.returns
returns c =
    trailer_seen c.args.bytes.now c.args.l c.adds_up.ensures c.leads_back.ensures
