-- `line_shc_shz::end_or_0` meets its contract: past the last contour a list reads as its default. Assumes nothing.
use mathlib.Core.Path.{sym}
use lib.ListN.{get_or-eq_default}
use Rattle.line_shc_shz.proofs.end_or_0.Goals as goal

pub returns-then-contours-k : goal.returns-then-contours-k
returns-then-contours-k c = let a = c.args in sym (get_or-eq_default a.contours.now 0 {n = a.k} c.if-contours-k.true)
