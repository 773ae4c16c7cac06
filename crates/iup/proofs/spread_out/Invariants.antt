-- `iup::spread_out` meets its contract. The invariant: what is done, with what the points from here on make, is the whole (`Spreading`).
-- Assumes nothing.
use Prim.Native.Nat.{◌-◌}
use lib.ListN.{length}
use Rattle.iup.proofs.Spread.{Spreading}
use Rattle.iup.specs.Contour.{spread, points_of}
use Rattle.iup.proofs.spread_out.Given as goal

abbrev pub invariant-loop-at : goal.invariant-loop-at
invariant-loop-at l = Spreading l.first (points_of l.mask l.flags l.unscaled l.original l.initial.current) (spread l.initial.before l.first (points_of l.mask l.flags l.unscaled l.original l.initial.current)) l.current l.before l.at

abbrev pub decreases-loop-at : goal.decreases-loop-at
decreases-loop-at l = length l.flags - l.at
