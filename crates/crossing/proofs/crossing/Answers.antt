-- `crossing::crossing` meets its contract: by whether the lines meet it is what its calls ensure, put together. Assumes nothing.
use Prim.Native.Nat.{◌^◌, ◌<◌}
use native.Mathlib.Omega.{arith}
use lib.Signed.{mag}
use Rattle.int.proofs.Words.{back32}
use Rattle.crossing.proofs.Seen.{in_middle, on_line}
use Rattle.crossing.proofs.crossing.Goals as goal
use Rattle.crossing.proofs.crossing.Goals.{After-from_to-da, Start}

-- the components fit
told : (s : Start) → let a = s.args.a0 in let b = s.args.a1 in let c = s.args.b0 in let d = s.args.b1 in (mag a.x < 2 ^ 31) × (mag b.x < 2 ^ 31) × (mag c.x < 2 ^ 31) × (mag d.x < 2 ^ 31) × (mag a.y < 2 ^ 31) × (mag b.y < 2 ^ 31) × (mag c.y < 2 ^ 31) × (mag d.y < 2 ^ 31)
told s = omega arith

told_2 : (c : After-from_to-da) → let d = c.from_to-da.result in (mag d.x < 2 ^ 31) × (mag d.y < 2 ^ 31)
told_2 c = omega arith

pub returns-then-do_meet : goal.returns-then-do_meet
returns-then-do_meet c = let m = c in let v = m in let w = v in let i = w in let k = i in let o = k in let x = o in let g = x in let f = g in let s = f in let a = s.args.a0 in let d = f.from_to-da.result in
    on_line a s.args.a1 s.args.b0 s.args.b1 f.from_to-da.ensures g.from_to-db.ensures (back32 x.cross-discriminant.result x.cross-discriminant.type_inv) x.cross-discriminant.ensures (back32 o.dot.result o.dot.type_inv) o.dot.ensures k.do_meet.ensures
    i.if-do_meet.true w.from_to.ensures (back32 v.cross-v.result v.cross-v.type_inv) v.cross-v.ensures
    (back32 a.x (told (goal.at.returns-then-do_meet c).Start).0) (back32 a.y (told (goal.at.returns-then-do_meet c).Start).4) (back32 d.x (told_2 (goal.at.returns-then-do_meet c).After-from_to-da).0) (back32 d.y (told_2 (goal.at.returns-then-do_meet c).After-from_to-da).1)
    (back32 m.moved-x.result m.moved-x.type_inv) m.moved-x.ensures (back32 c.moved-y.result c.moved-y.type_inv) c.moved-y.ensures

pub returns-else-do_meet : goal.returns-else-do_meet
returns-else-do_meet c = let m = c in let i = m in let k = i in let o = k in let x = o in let g = x in let f = g in let s = f in let p = s.args.a0 in let q = s.args.a1 in let u = s.args.b0 in let v = s.args.b1 in
    in_middle p q u v f.from_to-da.ensures g.from_to-db.ensures (back32 x.cross-discriminant.result x.cross-discriminant.type_inv) x.cross-discriminant.ensures (back32 o.dot.result o.dot.type_inv) o.dot.ensures k.do_meet.ensures
    i.if-do_meet.false
    (back32 p.x (told (goal.at.returns-else-do_meet c).Start).0) (back32 q.x (told (goal.at.returns-else-do_meet c).Start).1) (back32 u.x (told (goal.at.returns-else-do_meet c).Start).2) (back32 v.x (told (goal.at.returns-else-do_meet c).Start).3) (back32 p.y (told (goal.at.returns-else-do_meet c).Start).4) (back32 q.y (told (goal.at.returns-else-do_meet c).Start).5) (back32 u.y (told (goal.at.returns-else-do_meet c).Start).6) (back32 v.y (told (goal.at.returns-else-do_meet c).Start).7)
    (back32 m.middle-x.result m.middle-x.type_inv) m.middle-x.ensures (back32 c.middle-y.result c.middle-y.type_inv) c.middle-y.ensures
