-- `line_shift::pixel_move` meets its contract: the amount laid along each axis, and the move of both. Assumes nothing.
use native.Mathlib.Omega.{arith}
use mir.Facts.{to_z-of_z}
use Rattle.int.proofs.Words.{back32}
use Rattle.line_shift.proofs.Cases.{laid_along}
use Rattle.line_shift.proofs.pixel_move.Goals as goal

pub returns : goal.returns
returns c = let a = c.args in
    laid_along a.v a.f a.amount c.zp2_move_of.ensures (back32 c.mul14-dx.result c.mul14-dx.type_inv) (back32 c.mul14-dy.result c.mul14-dy.type_inv)
    c.mul14-dx.ensures
    c.mul14-dy.ensures
    (to_z-of_z c.ranges.amount)
    (to_z-of_z c.ranges.amount)
    (back32 _ (omega (arith, c.struct_told-1.given.0)))
    (back32 _ (omega (arith, c.struct_told-2-1.given.1.0)))
