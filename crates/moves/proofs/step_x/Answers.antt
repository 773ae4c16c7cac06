-- `moves::step_x` meets its contract. Assumes nothing.
use mir.Facts.{to_z-of_z}
use Rattle.moves.proofs.Axis.{x_step}
use Rattle.moves.proofs.step_x.Goals as goal

pub returns : goal.returns
returns c = λ f fdotp. x_step f fdotp c.args.distance (to_z-of_z c.ranges.distance)
