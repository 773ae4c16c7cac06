-- `math::over_zero` meets its contract: it is what its calls ensure, put together. Assumes nothing.
use mir.Facts.{to_z-of_z}
use Rattle.int.proofs.Words.{back32}
use Rattle.math.proofs.Seen.{over_zero}
use Rattle.math.proofs.over_zero.Goals as goal

pub returns : goal.returns
returns c = let o = c in let s = o in over_zero (to_z-of_z s.ranges.a) (to_z-of_z s.ranges.b) (back32 c.signed.result c.signed.type_inv) o.odd_signs.ensures c.signed.ensures
