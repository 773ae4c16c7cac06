-- `normalize::past_of` meets its contract: by the test. Assumes nothing.
use mathlib.Core.Path.{refl}
use Prim.Native.Nat.{◌/◌, ◌^◌}
use native.Mathlib.Omega.{arith}
use borrow.Author.Tests.{le-leb, lt-leb}
use Rattle.normalize.specs.Unit.{past}
use Rattle.normalize.proofs.past_of.Goals as goal

pub returns-then-zeros-len : goal.returns-then-zeros-len
unfolding past
returns-then-zeros-len c = let a = c.args in rw (le-leb (0xAAAAAAAA / 2 ^ a.zeros) a.len c.if-zeros-len.true) (refl, omega arith)

pub returns-else-zeros-len : goal.returns-else-zeros-len
unfolding past
returns-else-zeros-len c = let a = c.args in rw (lt-leb (0xAAAAAAAA / 2 ^ a.zeros) a.len c.if-zeros-len.false) (refl, omega arith)
