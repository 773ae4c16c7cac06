-- `record_read::counts_fit` meets its contract. Assumes nothing.
use Rattle.record_read.proofs.Seen.{counts_seen}
use Rattle.record_read.proofs.counts_fit.Goals as goal

pub returns : goal.returns
returns c =
    counts_seen c.args.l c.wide.ensures c.wide-2.ensures c.wide-3.ensures c.wide-4.ensures c.wide-5.ensures
    c.points_fit.ensures c.contours_fit.ensures c.points_fit-2.ensures c.control_values_fit.ensures c.words_fit.ensures
