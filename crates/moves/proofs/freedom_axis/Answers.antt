-- `moves::freedom_axis` meets its contract: by the tests of both vectors. Assumes nothing.
use Prim.Native.Nat.{◌^◌, ◌<◌}
use native.Mathlib.Omega.{arith}
use lib.Signed.{mag}
use Rattle.graphics.specs.State.{unit}
use Rattle.int.proofs.Words.{back32}
use Rattle.projection.proofs.Seen.{seen}
use Rattle.moves.proofs.Axis.{apart_from_x, apart_from_y, on_neither, on_x, on_y}
use Rattle.moves.proofs.freedom_axis.Goals as goal
use Rattle.moves.proofs.freedom_axis.Goals.{Start}

-- all four components fit
told : (s : Start) → let p = s.args.v.projection in let f = s.args.v.freedom in (mag p.x < 2 ^ 31) × (mag p.y < 2 ^ 31) × (mag f.x < 2 ^ 31) × (mag f.y < 2 ^ 31)
told s = omega arith

pub returns-then-equal-2 : goal.returns-then-equal-2
returns-then-equal-2 c = let g = c in let i = g in let e = i in let s = e in let v = s.args.v in
    on_x v (seen unit (back32 v.freedom.x (told (goal.at.returns-then-equal-2 c).Start).2) e.equal.ensures i.if-equal.true) (seen unit (back32 v.projection.x (told (goal.at.returns-then-equal-2 c).Start).0) g.equal-then-equal.ensures c.if-equal-2.true)

pub returns-else-equal-2 : goal.returns-else-equal-2
returns-else-equal-2 c = let g = c in let i = g in let e = i in let s = e in let v = s.args.v in
    apart_from_x v (seen unit (back32 v.freedom.x (told (goal.at.returns-else-equal-2 c).Start).2) e.equal.ensures i.if-equal.true) (seen unit (back32 v.projection.x (told (goal.at.returns-else-equal-2 c).Start).0) g.equal-then-equal.ensures c.if-equal-2.false)

pub returns-then-equal-4 : goal.returns-then-equal-4
returns-then-equal-4 c = let h = c in let j = h in let g = j in let i = g in let e = i in let s = e in let v = s.args.v in
    on_y v (seen unit (back32 v.freedom.x (told (goal.at.returns-then-equal-4 c).Start).2) e.equal.ensures i.if-equal.false) (seen unit (back32 v.freedom.y (told (goal.at.returns-then-equal-4 c).Start).3) g.equal-else-equal.ensures j.if-equal-3.true) (seen unit (back32 v.projection.y (told (goal.at.returns-then-equal-4 c).Start).1) h.equal-then-equal-3.ensures c.if-equal-4.true)

pub returns-else-equal-4 : goal.returns-else-equal-4
returns-else-equal-4 c = let h = c in let j = h in let g = j in let i = g in let e = i in let s = e in let v = s.args.v in
    apart_from_y v (seen unit (back32 v.freedom.x (told (goal.at.returns-else-equal-4 c).Start).2) e.equal.ensures i.if-equal.false) (seen unit (back32 v.freedom.y (told (goal.at.returns-else-equal-4 c).Start).3) g.equal-else-equal.ensures j.if-equal-3.true) (seen unit (back32 v.projection.y (told (goal.at.returns-else-equal-4 c).Start).1) h.equal-then-equal-3.ensures c.if-equal-4.false)

pub returns-else-equal-3 : goal.returns-else-equal-3
returns-else-equal-3 c = let g = c in let i = g in let e = i in let s = e in let v = s.args.v in
    on_neither v (seen unit (back32 v.freedom.x (told (goal.at.returns-else-equal-3 c).Start).2) e.equal.ensures i.if-equal.false) (seen unit (back32 v.freedom.y (told (goal.at.returns-else-equal-3 c).Start).3) g.equal-else-equal.ensures c.if-equal-3.false)
