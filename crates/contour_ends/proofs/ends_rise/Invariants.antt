-- `contour_ends::ends_rise` meets its contract. The last end lies below the number of points; the invariant: the pairs so far and those from k on rise as all ends do. Assumes nothing.
use mathlib.Core.Bool.{◌&&◌}
use mathlib.Core.Path.{◌≡◌}
use Prim.Native.Nat.{suc, ◌-◌}
use lib.ListN.{drop, get_or}
use Rattle.contour_ends.proofs.Rising.{pairs_from}
use Rattle.contour_ends.specs.Ends.{rising_from}
use Rattle.contour_ends.proofs.ends_rise.Given as goal

abbrev pub invariant-loop-k : goal.invariant-loop-k
invariant-loop-k l = l.rise && pairs_from (suc (get_or l.contours (l.k - 1) 0)) (drop l.k l.contours) ≡ rising_from 0 l.points l.contours
