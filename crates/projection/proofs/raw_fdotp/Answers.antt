-- `projection::raw_fdotp` meets its contract: by the tests of the freedom vector; off the axes it is what the calls ensure, put together.
-- Assumes nothing.
use Prim.Native.Nat.{◌^◌, ◌<◌}
use native.Mathlib.Omega.{arith}
use lib.Signed.{mag}
use Rattle.graphics.specs.State.{unit}
use Rattle.int.proofs.Words.{back32}
use Rattle.projection.proofs.Seen.{raw_both, raw_x, raw_y, seen}
use Rattle.projection.proofs.raw_fdotp.Goals as goal
use Rattle.projection.proofs.raw_fdotp.Goals.{Start}

-- all four components fit
told : (s : Start) → let p = s.args.p in let f = s.args.f in (mag p.x < 2 ^ 31) × (mag p.y < 2 ^ 31) × (mag f.x < 2 ^ 31) × (mag f.y < 2 ^ 31)
told s = omega arith

pub returns-then-equal : goal.returns-then-equal
returns-then-equal c = let e = c in let s = e in let p = s.args.p in let f = s.args.f in
    raw_x p f (seen unit (back32 f.x (told (goal.at.returns-then-equal c).Start).2) e.equal.ensures c.if-equal.true) (back32 p.x (told (goal.at.returns-then-equal c).Start).0)

pub returns-then-equal-2 : goal.returns-then-equal-2
returns-then-equal-2 c = let g = c in let i = g in let e = i in let s = e in let p = s.args.p in let f = s.args.f in
    raw_y p f (seen unit (back32 f.x (told (goal.at.returns-then-equal-2 c).Start).2) e.equal.ensures i.if-equal.false) (seen unit (back32 f.y (told (goal.at.returns-then-equal-2 c).Start).3) g.equal-else-equal.ensures c.if-equal-2.true) (back32 p.y (told (goal.at.returns-then-equal-2 c).Start).1)

pub returns-else-equal-2 : goal.returns-else-equal-2
returns-else-equal-2 c = let a = c in let n = a in let m = n in let j = m in let g = j in let i = g in let e = i in let s = e in let p = s.args.p in let f = s.args.f in
    raw_both p f (seen unit (back32 f.x (told (goal.at.returns-else-equal-2 c).Start).2) e.equal.ensures i.if-equal.false) (seen unit (back32 f.y (told (goal.at.returns-else-equal-2 c).Start).3) g.equal-else-equal.ensures j.if-equal-2.false)
    (back32 p.x (told (goal.at.returns-else-equal-2 c).Start).0) (back32 p.y (told (goal.at.returns-else-equal-2 c).Start).1) (back32 f.x (told (goal.at.returns-else-equal-2 c).Start).2) (back32 f.y (told (goal.at.returns-else-equal-2 c).Start).3)
    (back32 m.wrapping_mul.result m.wrapping_mul.type_inv) m.wrapping_mul.ensures
    (back32 n.wrapping_mul-else-equal-2.result n.wrapping_mul-else-equal-2.type_inv) n.wrapping_mul-else-equal-2.ensures
    (back32 a.wrapping_add.result a.wrapping_add.type_inv) a.wrapping_add.ensures
    (back32 c.shift_right.result c.shift_right.type_inv) c.shift_right.ensures
