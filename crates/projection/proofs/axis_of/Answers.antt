-- `projection::axis_of` meets its contract: by the tests of the two components. Assumes nothing.
use Prim.Native.Nat.{◌^◌, ◌<◌}
use native.Mathlib.Omega.{arith}
use lib.Signed.{mag}
use Rattle.graphics.specs.State.{unit}
use Rattle.int.proofs.Words.{back32}
use Rattle.projection.proofs.Seen.{axis_both, axis_x, axis_y, seen}
use Rattle.projection.proofs.axis_of.Goals as goal
use Rattle.projection.proofs.axis_of.Goals.{Start}

-- both components fit
told : (s : Start) → let v = s.args.v in (mag v.x < 2 ^ 31) × (mag v.y < 2 ^ 31)
told s = omega arith

pub returns-then-equal : goal.returns-then-equal
returns-then-equal c = let e = c in let s = e in let v = s.args.v in axis_x v (seen unit (back32 v.x (told (goal.at.returns-then-equal c).Start).0) e.equal.ensures c.if-equal.true)

pub returns-then-equal-2 : goal.returns-then-equal-2
returns-then-equal-2 c = let g = c in let i = g in let e = i in let s = e in let v = s.args.v in
    axis_y v (seen unit (back32 v.x (told (goal.at.returns-then-equal-2 c).Start).0) e.equal.ensures i.if-equal.false) (seen unit (back32 v.y (told (goal.at.returns-then-equal-2 c).Start).1) g.equal-else-equal.ensures c.if-equal-2.true)

pub returns-else-equal-2 : goal.returns-else-equal-2
returns-else-equal-2 c = let g = c in let i = g in let e = i in let s = e in let v = s.args.v in
    axis_both v (seen unit (back32 v.x (told (goal.at.returns-else-equal-2 c).Start).0) e.equal.ensures i.if-equal.false) (seen unit (back32 v.y (told (goal.at.returns-else-equal-2 c).Start).1) g.equal-else-equal.ensures c.if-equal-2.false)
