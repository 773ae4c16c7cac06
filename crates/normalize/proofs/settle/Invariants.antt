-- `normalize::settle` meets its contract: the invariant is that from here it settles where it does from the first guess. Assumes nothing.
use mathlib.Core.Path.{◌≡◌}
use Prim.Native.Nat.{◌-◌}
use Rattle.normalize.specs.Unit.{rounds, settled}
use Rattle.normalize.proofs.settle.Given as goal

abbrev pub invariant-loop : goal.invariant-loop
invariant-loop l = settled (rounds - l.counter) l.x l.y l.b ≡ settled rounds l.x l.y l.first
