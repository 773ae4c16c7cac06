-- `feed_look::long` meets its contract. Assumes nothing.
use borrow.Author.Tests.{le-ltb, lt-ltb}
use Prim.Native.Nat.{◌^◌}
use Rattle.feed_look.specs.Look.{long_by}
use Rattle.feed_look.proofs.long.Goals as goal

pub returns-then-count-lt2147483648 : goal.returns-then-count-lt2147483648
unfolding long_by
returns-then-count-lt2147483648 c = rw (lt-ltb c.args.count (2 ^ 31) c.if-count-lt2147483648.true)

pub returns-else-count-lt2147483648 : goal.returns-else-count-lt2147483648
unfolding long_by
returns-else-count-lt2147483648 c = rw (le-ltb c.args.count (2 ^ 31) c.if-count-lt2147483648.false)
