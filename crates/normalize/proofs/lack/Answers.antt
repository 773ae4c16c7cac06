-- `normalize::lack` meets its contract: it is what its calls ensure, put together. Assumes nothing.
use mir.Facts.{to_z-of_z}
use Rattle.int.proofs.Words.{back32}
use Rattle.normalize.proofs.Seen.{lack}
use Rattle.normalize.proofs.lack.Goals as goal

pub returns : goal.returns
returns c = let n = c in let a = n in let q = a in let p = q in let s = p in
    lack (to_z-of_z s.ranges.u) (to_z-of_z s.ranges.v) (back32 p.wrapping_mul.result p.wrapping_mul.type_inv) p.wrapping_mul.ensures (back32 q.wrapping_mul-2.result q.wrapping_mul-2.type_inv) q.wrapping_mul-2.ensures
    (back32 a.wrapping_add-squared.result a.wrapping_add-squared.type_inv) a.wrapping_add-squared.ensures (back32 n.wrapping_neg.result n.wrapping_neg.type_inv) n.wrapping_neg.ensures (back32 c.wrapping_div.result c.wrapping_div.type_inv) c.wrapping_div.ensures
