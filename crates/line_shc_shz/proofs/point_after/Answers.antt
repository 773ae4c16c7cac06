-- `line_shc_shz::point_after` meets its contract: by whether there is a contour before. Assumes nothing.
use native.Mathlib.Omega.{arith}
use Rattle.line_shc_shz.proofs.Cases.{after_some}
use Rattle.line_shc_shz.proofs.point_after.Goals as goal

pub returns-else-count-eq0 : goal.returns-else-count-eq0
returns-else-count-eq0 c = let a = c.args in
    after_some a.contours.now a.count (omega (arith, c.if-count-eq0.false)) c.end_or_0.ensures
