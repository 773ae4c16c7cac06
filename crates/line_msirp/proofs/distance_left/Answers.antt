-- `line_msirp::distance_left` meets its contract: it is what its calls ensure, put together. Assumes nothing.
use mir.Facts.{to_z-of_z}
use Rattle.int.proofs.Words.{back32}
use Rattle.line_msirp.proofs.Cases.{distance_from}
use Rattle.line_msirp.proofs.distance_left.Goals as goal

pub returns : goal.returns
returns c = distance_from (to_z-of_z c.ranges.distance) (back32 c.project.result c.project.type_inv) c.project.ensures (back32 c.wrapping_sub.result c.wrapping_sub.type_inv) c.wrapping_sub.ensures
