-- `crossing::cross` meets its contract: it is what its calls ensure, put together. Assumes nothing.
use Prim.Native.Nat.{◌^◌, ◌<◌}
use native.Mathlib.Omega.{arith}
use lib.Signed.{mag}
use Rattle.int.proofs.Words.{back32}
use Rattle.crossing.proofs.Seen.{cross}
use Rattle.crossing.proofs.cross.Goals as goal
use Rattle.crossing.proofs.cross.Goals.{Start}

-- the components fit
told : (s : Start) → let u = s.args.u in let v = s.args.v in (mag u.x < 2 ^ 31) × (mag u.y < 2 ^ 31) × (mag v.x < 2 ^ 31) × (mag v.y < 2 ^ 31)
told s = omega arith

pub returns : goal.returns
returns c = let q = c in let p = q in let n = p in let s = n in let u = s.args.u in let v = s.args.v in
    cross u v (back32 u.x (told (goal.at.returns c).Start).0) (back32 u.y (told (goal.at.returns c).Start).1) (back32 v.x (told (goal.at.returns c).Start).2) (back32 v.y (told (goal.at.returns c).Start).3)
    (back32 n.wrapping_neg.result n.wrapping_neg.type_inv) n.wrapping_neg.ensures (back32 p.mul_div.result p.mul_div.type_inv) p.mul_div.ensures (back32 q.mul_div-2.result q.mul_div-2.type_inv) q.mul_div-2.ensures (back32 c.wrapping_add.result c.wrapping_add.type_inv) c.wrapping_add.ensures
