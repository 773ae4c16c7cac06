-- `normalize::aim_from` meets its contract: it is what its calls ensure, put together. Assumes nothing.
use Prim.Native.Nat.{◌^◌, ◌<◌}
use native.Mathlib.Omega.{arith}
use lib.Signed.{mag}
use mir.Facts.{to_z-of_z}
use Rattle.int.proofs.Words.{back32}
use Rattle.normalize.proofs.Seen.{aim_from}
use Rattle.normalize.proofs.aim_from.Goals as goal
use Rattle.normalize.proofs.aim_from.Goals.{Start}

-- the three numbers fit
told : (s : Start) → let n = s.args.s in (mag n.x < 2 ^ 31) × ((mag n.y < 2 ^ 31) × (mag n.b < 2 ^ 31))
told s = omega arith

pub returns : goal.returns
returns c = let m = c in let s = m in let n = s.args.s in
    aim_from n (to_z-of_z s.ranges.x) (to_z-of_z s.ranges.y) (back32 n.x (told (goal.at.returns c).Start).0) (back32 n.y (told (goal.at.returns c).Start).1.0) (back32 n.b (told (goal.at.returns c).Start).1.1) (back32 m.settle.result m.settle.type_inv) m.settle.ensures c.aim.ensures
