-- `normalize::aim` meets its contract: it is what its calls ensure, put together. Assumes nothing.
use Prim.Native.Nat.{◌^◌, ◌<◌}
use native.Mathlib.Omega.{arith}
use lib.Signed.{mag}
use mir.Facts.{to_z-of_z}
use Rattle.int.proofs.Words.{back32}
use Rattle.normalize.proofs.Seen.{aim}
use Rattle.normalize.proofs.aim.Goals as goal
use Rattle.normalize.proofs.aim.Goals.{Start}

-- both numbers fit
told : (s : Start) → let n = s.args.s in (mag n.x < 2 ^ 31) × (mag n.y < 2 ^ 31)
told s = omega arith

pub returns : goal.returns
returns c = let v = c in let n = v in let k = n in let u = k in let m = u in let s = m in let n' = s.args.s in
    aim n' (to_z-of_z s.ranges.b) (to_z-of_z s.ranges.x) (to_z-of_z s.ranges.y) (back32 n'.x (told (goal.at.returns c).Start).0) (back32 n'.y (told (goal.at.returns c).Start).1) m.less.ensures (back32 u.grow.result u.grow.type_inv) u.grow.ensures (back32 k.component_of.result k.component_of.type_inv) k.component_of.ensures n.less-2.ensures (back32 v.grow-2.result v.grow-2.type_inv) v.grow-2.ensures (back32 c.component_of-2.result c.component_of-2.type_inv) c.component_of-2.ensures
