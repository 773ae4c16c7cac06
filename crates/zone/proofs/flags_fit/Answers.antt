-- `zone::flags_fit` meets its contract: it is the test of the limit. Assumes nothing.
use Rattle.zone.specs.Sizes.{flags_fit}
use Rattle.zone.proofs.flags_fit.Goals as goal

pub returns : goal.returns
unfolding flags_fit
returns c = c.points_fit.ensures
