-- `line_mirp::mirp_place` meets its contract: each coordinate is what its calls ensure, put together. Assumes nothing.
use native.Mathlib.Omega.{arith}
use mir.Facts.{to_z-of_z}
use Rattle.int.proofs.Words.{back32}
use Rattle.line_mirp.proofs.Cases.{place_by}
use Rattle.line_mirp.proofs.mirp_place.Goals as goal

pub returns : goal.returns
returns c = let a = c.args in
    place_by a.freedom a.control a.reference (to_z-of_z c.ranges.control)
    (back32 a.freedom.x (omega (arith, c.struct_told-1.given)))
    c.mul.ensures
    (back32 a.reference.x (omega (arith, c.struct_told-2-1.given)))
    (back32 c.mul.result c.mul.type_inv)
    c.wrapping_add-x.ensures
    (back32 c.wrapping_add-x.result c.wrapping_add-x.type_inv)
    (back32 a.freedom.y (omega (arith, c.struct_told-3-1.given)))
    c.mul-2.ensures
    (back32 a.reference.y (omega (arith, c.struct_told-4-1.given)))
    (back32 c.mul-2.result c.mul-2.type_inv)
    c.wrapping_add-y.ensures
    (back32 c.wrapping_add-y.result c.wrapping_add-y.type_inv)
