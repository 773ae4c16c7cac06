-- `feed_calls::is_open` meets its contract. Assumes nothing.
use mathlib.Core.Bool.{◌&&◌}
use mathlib.Core.Path.{ap}
use lib.Dec.{eqb}
use lib.ListN.{length}
use Prim.Native.Nat.{ℕ}
use Rattle.feed_calls.specs.Feed.{feed_size, is_open_feed}
use Rattle.feed_calls.proofs.is_open.Goals as goal

pub returns : goal.returns
unfolding is_open_feed
returns c = ap (λ (n : ℕ). eqb (length c.args.numbers.now) feed_size && eqb n 1) c.kept_word.ensures
