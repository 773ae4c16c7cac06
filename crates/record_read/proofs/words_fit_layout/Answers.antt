-- `record_read::words_fit_layout` meets its contract. Assumes nothing.
use Rattle.record_read.proofs.Seen.{words_seen}
use Rattle.record_read.proofs.words_fit_layout.Goals as goal

pub returns : goal.returns
returns c =
    words_seen c.args.bytes.now c.args.l c.state_fits.ensures c.list_at_most.ensures c.list_at_most-2.ensures c.list_at_most-3.ensures
