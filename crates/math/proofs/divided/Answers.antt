-- `math::divided` meets its contract: it is what its calls ensure, put together. Assumes nothing.
use mir.Facts.{to_z-of_z}
use Rattle.int.proofs.Words.{back32}
use Rattle.math.proofs.Seen.{divided}
use Rattle.math.proofs.divided.Goals as goal

pub returns : goal.returns
returns c = let o = c in let q = o in let m = q in let l = m in let k = l in let s = k in
    divided (to_z-of_z s.ranges.a) (to_z-of_z s.ranges.b) (back32 c.signed.result c.signed.type_inv) (to_z-of_z s.ranges.c) k.magnitude.ensures l.magnitude-2.ensures m.magnitude-3.ensures q.quotient-q.ensures.0 o.odd_signs.ensures c.signed.ensures
