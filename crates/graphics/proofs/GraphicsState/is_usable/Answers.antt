-- `graphics::GraphicsState::is_usable` meets its contract: it is what the two tests ensure. Assumes nothing.
use Rattle.graphics.proofs.Seen.{state}
use Rattle.graphics.proofs.GraphicsState.is_usable.Goals as goal

pub returns : goal.returns
returns c = state c.args.self c.are_in_range.ensures c.is_usable.ensures
