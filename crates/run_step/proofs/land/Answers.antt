-- `run_step::land` meets its contract: its place is what the line came to. Assumes nothing.
use Rattle.run_step.proofs.Steps.{landing}
use Rattle.run_step.proofs.land.Goals as goal

pub returns : goal.returns
returns c = landing c.args.at c.args.end c.args.r c.place_after-place.ensures
