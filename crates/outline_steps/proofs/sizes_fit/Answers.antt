-- `outline_steps::sizes_fit` meets its contract: it is the two tests. Assumes nothing.
use mathlib.Core.Bool.{◌&&◌}
use Rattle.outline_steps.specs.Outline.{sizes_fit}
use Rattle.outline_steps.proofs.sizes_fit.Goals as goal

-- src/lib.rt:335:1
pub returns : goal.returns
unfolding sizes_fit
returns c = λ i. c.placed_fits.ensures i && c.contours_fit.ensures i
