-- `moves::step_y` meets its contract. Assumes nothing.
use mir.Facts.{to_z-of_z}
use Rattle.moves.proofs.Axis.{y_step}
use Rattle.moves.proofs.step_y.Goals as goal

pub returns : goal.returns
returns c = λ f fdotp. y_step f fdotp c.args.distance (to_z-of_z c.ranges.distance)
