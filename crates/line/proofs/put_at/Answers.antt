-- `line::put_at` meets its contract: one coordinate after the other. Assumes nothing.
use native.Mathlib.Omega.{arith}
use Rattle.int.proofs.Words.{back32}
use Rattle.line.proofs.Cases.{put_both}
use Rattle.line.proofs.put_at.Goals as goal

pub returns : goal.returns
returns c = let p = c in let s = p in let k = s in let q = k in let t = q in
    put_both t.args.place t.args.at t.args.xs.now t.args.ys.now
    (back32 t.args.place.x (omega (arith, q.struct_told-1.given.0)))
    (back32 t.args.place.y (omega (arith, s.struct_told-2-1.given.1.0)))
    k.put_one.ensures
    p.put_one-2.ensures
