-- `normalize::start_at` meets its contract: it is what its calls ensure, put together. Assumes nothing.
use mir.Syntax.{w64}
use mir.Facts.{to_z_pos}
use native.Mathlib.Omega.{arith}
use Rattle.int.proofs.Words.{back32}
use Rattle.normalize.proofs.Seen.{start_at_lem}
use Rattle.normalize.proofs.start_at.Goals as goal

pub returns : goal.returns
returns c = let k = c in let b = k in let a = b in let n = a in let q = n in let p = q in let s = p in
    start_at_lem s.args.up s.args.down s.args.len s.args.x s.args.y p.shift_by-near_x.ensures.0 q.shift_by-near_y.ensures.0 n.near_length-near.ensures.0
    (to_z_pos w64 (omega (arith, p.shift_by-near_x.ensures.1))) (to_z_pos w64 (omega (arith, q.shift_by-near_y.ensures.1))) (to_z_pos w64 (omega (arith, n.near_length-near.ensures.1)))
    (back32 a.low32.result a.low32.type_inv) a.low32.ensures (back32 b.low32-2.result b.low32-2.type_inv) b.low32-2.ensures (back32 k.low32-3.result k.low32-3.type_inv) k.low32-3.ensures (back32 c.wrapping_sub.result c.wrapping_sub.type_inv) c.wrapping_sub.ensures
