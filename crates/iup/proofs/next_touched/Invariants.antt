-- `iup::next_touched` meets its contract. The invariant: a search from `ahead` points on ends where one from `from` does. Assumes nothing.
use mathlib.Core.Path.{◌≡◌}
use Prim.Native.Nat.{◌+◌}
use lib.ListN.{drop}
use Rattle.iup.specs.Parts.{marks, ahead}
use Rattle.iup.proofs.next_touched.Given as goal

abbrev pub invariant-loop-ahead : goal.invariant-loop-ahead
invariant-loop-ahead l = l.ahead + ahead (marks l.mask (drop l.ahead (drop l.from l.flags))) ≡ ahead (marks l.mask (drop l.from l.flags))
