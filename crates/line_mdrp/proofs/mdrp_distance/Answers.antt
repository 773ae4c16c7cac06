-- `line_mdrp::mdrp_distance` meets its contract: it is what its calls ensure, put together. Assumes nothing.
use native.Mathlib.Omega.{arith}
use mir.Facts.{to_z-of_z}
use Rattle.int.proofs.Words.{back32}
use Rattle.line_mdrp.proofs.Cases.{distance_by}
use Rattle.line_mdrp.proofs.mdrp_distance.Goals as goal

pub returns : goal.returns
returns c = let a = c.args in
    distance_by a.opcode a.native a.round a.m
    (back32 a.m.single_width_cut_in (omega (arith, c.struct_told-1.given)))
    (back32 a.m.single_width (omega (arith, c.struct_told-2-1.given)))
    (to_z-of_z c.ranges.outline)
    c.single_outline-d.ensures
    (back32 a.m.minimum_distance (omega (arith, c.struct_told-3-1.given)))
    (back32 c.single_outline-d.result c.single_outline-d.type_inv)
    c.finish.ensures
