-- `iup::last_touched` meets its contract. The invariant: the last touched point of all is that of the first i. Assumes nothing.
use mathlib.Core.Path.{◌≡◌}
use lib.ListN.{take}
use Rattle.iup.specs.Parts.{marks, up_to_last}
use Rattle.iup.proofs.last_touched.Given as goal

abbrev pub invariant-loop-i : goal.invariant-loop-i
invariant-loop-i l = up_to_last (marks l.mask (take l.i l.flags)) ≡ up_to_last (marks l.mask l.flags)
