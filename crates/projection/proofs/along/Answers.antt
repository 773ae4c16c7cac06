-- `projection::along` meets its contract: by the tests of the vector it is a difference, or what `dot14` ensures of both. Assumes nothing.
use Prim.Native.Nat.{◌^◌, ◌<◌}
use native.Mathlib.Omega.{arith}
use lib.IntN.{ℤ}
use lib.Signed.{mag}
use mathlib.Core.Path.{◌≡◌}
use mir.Syntax.{w32}
use mir.Val.{to_z, of_z}
use Rattle.graphics.specs.State.{unit}
use Rattle.int.proofs.Words.{back32}
use Rattle.math.specs.Fixed.{dot_fix14}
use Rattle.projection.proofs.Seen.{along_both, along_x, along_y, seen}
use Rattle.projection.proofs.along.Goals as goal
use Rattle.projection.proofs.along.Goals.{After-dot14, Start}

-- the coordinates fit
told : (s : Start) → let v = s.args.v in let a = s.args.a in let b = s.args.b in (mag a.x < 2 ^ 31) × (mag b.x < 2 ^ 31) × (mag a.y < 2 ^ 31) × (mag b.y < 2 ^ 31) × (mag v.x < 2 ^ 31) × (mag v.y < 2 ^ 31)
told s = omega arith

-- off both axes each component is taken with its own
by_both : (c : After-dot14) → let word : ℤ → ℤ = λ z. to_z w32 (of_z w32 z) in c.dot14.result ≡ dot_fix14 (word c.wrapping_sub-dx.result) (word c.wrapping_sub-dy.result) (word c.args.v.x) (word c.args.v.y)
by_both c = c.dot14.ensures

pub returns-then-equal : goal.returns-then-equal
returns-then-equal c = let e = c in let w = e in let u = w in let s = u in let v = s.args.v in let a = s.args.a in let b = s.args.b in
    along_x v a b (seen unit (back32 v.x (told (goal.at.returns-then-equal c).Start).4) e.equal.ensures c.if-equal.true) (back32 a.x (told (goal.at.returns-then-equal c).Start).0) (back32 b.x (told (goal.at.returns-then-equal c).Start).1) (back32 u.wrapping_sub-dx.result u.wrapping_sub-dx.type_inv) u.wrapping_sub-dx.ensures

pub returns-then-equal-2 : goal.returns-then-equal-2
returns-then-equal-2 c = let g = c in let i = g in let e = i in let w = e in let s = w in let v = s.args.v in let a = s.args.a in let b = s.args.b in
    along_y v a b (seen unit (back32 v.x (told (goal.at.returns-then-equal-2 c).Start).4) e.equal.ensures i.if-equal.false) (seen unit (back32 v.y (told (goal.at.returns-then-equal-2 c).Start).5) g.equal-else-equal.ensures c.if-equal-2.true)
    (back32 a.y (told (goal.at.returns-then-equal-2 c).Start).2) (back32 b.y (told (goal.at.returns-then-equal-2 c).Start).3) (back32 w.wrapping_sub-dy.result w.wrapping_sub-dy.type_inv) w.wrapping_sub-dy.ensures

pub returns-else-equal-2 : goal.returns-else-equal-2
returns-else-equal-2 c = let j = c in let g = j in let i = g in let e = i in let w = e in let u = w in let s = u in let v = s.args.v in let a = s.args.a in let b = s.args.b in
    along_both v a b (seen unit (back32 v.x (told (goal.at.returns-else-equal-2 c).Start).4) e.equal.ensures i.if-equal.false) (seen unit (back32 v.y (told (goal.at.returns-else-equal-2 c).Start).5) g.equal-else-equal.ensures j.if-equal-2.false)
    (back32 a.x (told (goal.at.returns-else-equal-2 c).Start).0) (back32 b.x (told (goal.at.returns-else-equal-2 c).Start).1) (back32 a.y (told (goal.at.returns-else-equal-2 c).Start).2) (back32 b.y (told (goal.at.returns-else-equal-2 c).Start).3) (back32 v.x (told (goal.at.returns-else-equal-2 c).Start).4) (back32 v.y (told (goal.at.returns-else-equal-2 c).Start).5)
    (back32 u.wrapping_sub-dx.result u.wrapping_sub-dx.type_inv) u.wrapping_sub-dx.ensures
    (back32 w.wrapping_sub-dy.result w.wrapping_sub-dy.type_inv) w.wrapping_sub-dy.ensures
    (back32 c.dot14.result c.dot14.type_inv) (by_both (goal.at.returns-else-equal-2 c).After-dot14)
