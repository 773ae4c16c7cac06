-- `graphics::GraphicsState::with_rounding` meets its contract: the tallies are those that `Tallies::with_rounding` ensures. Assumes nothing.
use mathlib.Core.Path.{ap}
use Rattle.graphics.specs.State.{with_rounding, with_tallies}
use Rattle.graphics.proofs.GraphicsState.with_rounding.Goals as goal

pub returns : goal.returns
unfolding with_rounding
returns c = ap (with_tallies c.args.self) c.with_rounding-self.ensures
