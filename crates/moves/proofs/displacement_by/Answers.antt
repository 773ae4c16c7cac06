-- `moves::displacement_by` meets its contract: each number is what its call ensures. Assumes nothing.
use mathlib.Core.Path.{◌∙◌}
use native.Mathlib.Omega.{arith}
use mir.Facts.{to_z-of_z}
use Rattle.int.proofs.Words.{back32}
use Rattle.moves.proofs.Cases.{displacement_from}
use Rattle.moves.proofs.displacement_by.Goals as goal

pub returns : goal.returns
returns c = let x = c in let p = x in let d = p in let s = d in let f = s.ranges in
    displacement_from (to_z-of_z f.px) (to_z-of_z f.py) (to_z-of_z f.fx) (to_z-of_z f.fy) (to_z-of_z f.cx) (to_z-of_z f.cy) (to_z-of_z f.ox) (to_z-of_z f.oy) d.derive-derived.ensures
    (back32 d.derive-derived.result.fdotp (omega (arith, x.struct_told-1.given.1.1.1.0)))
    (back32 p.project-distance.result p.project-distance.type_inv ∙ p.project-distance.ensures)
    (back32 x.mul_div-x.result x.mul_div-x.type_inv ∙ x.mul_div-x.ensures)
    (back32 c.mul_div-y.result c.mul_div-y.type_inv ∙ c.mul_div-y.ensures)
