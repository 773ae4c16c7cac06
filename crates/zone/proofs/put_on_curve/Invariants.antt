-- `zone::put_on_curve` meets its contract. The invariant: the flags below the index are set, and the others are as they were. Assumes nothing.
use mathlib.Core.List.{map, ◌++◌}
use mathlib.Core.Path.{◌≡◌}
use lib.ListN.{drop, take}
use Rattle.zone.specs.Zone.{on_curve}
use Rattle.zone.proofs.put_on_curve.Given as goal

abbrev pub invariant-loop-flag : goal.invariant-loop-flag
invariant-loop-flag l = l.part ≡ map (on_curve l.on) (take l.flag-index l.initial.part) ++ drop l.flag-index l.initial.part
