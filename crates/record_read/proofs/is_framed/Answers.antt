-- `record_read::is_framed` meets its contract: it is the three tests, of the layout that the trailer gives. Assumes nothing.
use mathlib.Core.Path.{◌∙◌, ap}
use Rattle.record_read.specs.Read.{counts_fit, trailer_fits}
use Rattle.record_read.proofs.Verdict.{all_three}
use Rattle.record_read.proofs.is_framed.Goals as goal

pub returns : goal.returns
returns c = let b = c.args.bytes.now in
    let e = c.layout_of-l.ensures in
    all_three c.length_fits.ensures (c.counts_fit.ensures ∙ ap counts_fit e) (c.trailer_fits.ensures ∙ ap (trailer_fits b) e)
