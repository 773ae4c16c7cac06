-- `feed_arriving::is_cut` meets its contract. Assumes nothing.
use mathlib.Core.Bool.{Bool, ◌&&◌}
use mathlib.Core.Path.{ap}
use lib.Dec.{ltb}
use Rattle.feed_arriving.proofs.is_cut.Goals as goal

pub returns : goal.returns
returns c = ap (λ (b : Bool). b && ltb 0 c.args.begun) c.is_open.ensures
