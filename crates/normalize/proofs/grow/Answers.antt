-- `normalize::grow` meets its contract: it is what its calls ensure, put together. Assumes nothing.
use mir.Facts.{to_z-of_z}
use Rattle.int.proofs.Words.{back32}
use Rattle.normalize.proofs.Seen.{grow}
use Rattle.normalize.proofs.grow.Goals as goal

pub returns : goal.returns
returns c = let r = c in let m = r in let s = m in
    grow (to_z-of_z s.ranges.b) (to_z-of_z s.ranges.n) (back32 m.wrapping_mul.result m.wrapping_mul.type_inv) m.wrapping_mul.ensures (back32 r.shift_right.result r.shift_right.type_inv) r.shift_right.ensures (back32 c.wrapping_add.result c.wrapping_add.type_inv) c.wrapping_add.ensures
