-- `line_msirp::moved_by` meets its contract: by whether the axis moves. Assumes nothing.
use mir.Facts.{to_z-of_z}
use Rattle.int.proofs.Words.{back32}
use Rattle.line_msirp.proofs.moved_by.Goals as goal

pub returns-then-moves : goal.returns-then-moves
returns-then-moves c = rw c.if-moves.true (cc (to_z-of_z c.ranges.z, to_z-of_z c.ranges.by, back32 c.wrapping_add.result c.wrapping_add.type_inv))

pub returns-else-moves : goal.returns-else-moves
returns-else-moves c = rw c.if-moves.false (to_z-of_z c.ranges.z)
