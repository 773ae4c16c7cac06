-- `moves::zp2_move_of` meets its contract: the tests are what the calls ensure. Assumes nothing.
use Prim.Native.Nat.{◌^◌, ◌<◌}
use native.Mathlib.Omega.{arith}
use lib.Signed.{mag}
use mir.Facts.{to_z-of_z}
use Rattle.int.proofs.Words.{back32}
use Rattle.moves.proofs.Cases.{zp2_from}
use Rattle.moves.proofs.zp2_move_of.Goals as goal
use Rattle.moves.proofs.zp2_move_of.Goals.{Start}

small : (s : Start) → (mag s.args.v.freedom.x < 2 ^ 31) × (mag s.args.v.freedom.y < 2 ^ 31)
small s = omega arith

pub returns : goal.returns
returns c = let p = c in let b = p in let y = b in let x = y in let s = x in let f = s.args.v.freedom in let k = small (goal.at.returns c).Start in
    zp2_from s.args.v s.args.f s.args.dx s.args.dy s.args.touches (back32 f.x k.0) (back32 f.y k.1) (to_z-of_z s.ranges.dx) (to_z-of_z s.ranges.dy)
    x.equal-has_x.ensures y.equal-has_y.ensures b.bits_for-touch.ensures p.past_both_iups.ensures c.held.ensures
