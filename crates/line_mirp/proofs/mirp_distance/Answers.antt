-- `line_mirp::mirp_distance` meets its contract: it is what its calls ensure, put together. Assumes nothing.
use native.Mathlib.Omega.{arith}
use mir.Facts.{to_z-of_z}
use Rattle.int.proofs.Words.{back32}
use Rattle.line_mirp.proofs.Cases.{distance_by}
use Rattle.line_mirp.proofs.mirp_distance.Goals as goal

pub returns : goal.returns
returns c = let a = c.args in
    distance_by a.opcode a.within a.native a.round a.m a.control a.original (to_z-of_z c.ranges.original) (to_z-of_z c.ranges.control)
    c.flipped-turned.ensures
    (back32 c.flipped-turned.result c.flipped-turned.type_inv)
    c.rounds.ensures
    (back32 a.m.cut_in (omega (arith, c.struct_told-1.given)))
    c.near-d.ensures
    (back32 c.near-d.result c.near-d.type_inv)
    (back32 a.m.minimum_distance (omega (arith, c.struct_told-2-1.given)))
    c.finish.ensures
