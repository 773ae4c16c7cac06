-- `moves::step_slanted` meets its contract: each part is what its call ensures. Assumes nothing.
use native.Mathlib.Omega.{arith}
use mir.Facts.{to_z-of_z}
use Rattle.int.proofs.Words.{back32}
use Rattle.moves.proofs.Axis.{slanted_step}
use Rattle.moves.proofs.step_slanted.Goals as goal

pub returns : goal.returns
returns c = let y = c in let x = y in let b = x in let a = b in let t = a in let d = t in let f = d.ranges in
    slanted_step (to_z-of_z f.px) (to_z-of_z f.py) (to_z-of_z f.fx) (to_z-of_z f.fy) (to_z-of_z f.distance) d.derive-derived.ensures
    (back32 d.derive-derived.result.fdotp (omega (arith, t.struct_told-1.given.1.1.1.0)))
    a.equal-has_x.ensures b.equal-has_y.ensures
    (back32 x.mul_div-dx.result x.mul_div-dx.type_inv) x.mul_div-dx.ensures
    (back32 y.mul_div-dy.result y.mul_div-dy.type_inv) y.mul_div-dy.ensures
    c.bits_for-touch.ensures
