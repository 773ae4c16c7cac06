-- `normalize::correct` meets its contract: it is what its calls ensure, put together. Assumes nothing.
use mir.Facts.{to_z-of_z}
use Rattle.int.proofs.Words.{back32}
use Rattle.normalize.proofs.Seen.{correct}
use Rattle.normalize.proofs.correct.Goals as goal

pub returns : goal.returns
returns c = let m = c in let l = m in let v = l in let u = v in let t = u in let a = t in let s = a in
    correct (to_z-of_z s.ranges.x) (to_z-of_z s.ranges.y) (to_z-of_z s.ranges.b) (back32 a.wrapping_add.result a.wrapping_add.type_inv) a.wrapping_add.ensures (back32 t.shift_right-part.result t.shift_right-part.type_inv) t.shift_right-part.ensures
    (back32 u.grow.result u.grow.type_inv) u.grow.ensures (back32 v.grow-2.result v.grow-2.type_inv) v.grow-2.ensures (back32 l.lack.result l.lack.type_inv) l.lack.ensures
    (back32 m.wrapping_mul.result m.wrapping_mul.type_inv) m.wrapping_mul.ensures (back32 c.wrapping_div.result c.wrapping_div.type_inv) c.wrapping_div.ensures
