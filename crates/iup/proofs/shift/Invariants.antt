-- `iup::shift` meets its contract. The invariant: the points below the index are shifted, and the others as they were. Assumes nothing.
use mathlib.Core.List.{map, ◌++◌}
use mathlib.Core.Path.{◌≡◌}
use lib.ListN.{drop, take}
use Rattle.int.specs.Word.{add32}
use Rattle.iup.proofs.shift.Given as goal

abbrev pub invariant-loop-place : goal.invariant-loop-place
invariant-loop-place l = l.part ≡ map (λ x. add32 x l.delta) (take l.place-index l.initial.part) ++ drop l.place-index l.initial.part
