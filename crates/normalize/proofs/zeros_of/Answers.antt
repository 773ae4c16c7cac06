-- `normalize::zeros_of` meets its contract: it is what the machine counts. Assumes nothing.
use mathlib.Core.Path.{refl}
use lib.Count.{leading_le}
use Rattle.normalize.specs.Unit.{zeros}
use Rattle.normalize.proofs.zeros_of.Goals as goal

pub returns : goal.returns
unfolding zeros
returns c = (refl, leading_le 32 c.args.len)
