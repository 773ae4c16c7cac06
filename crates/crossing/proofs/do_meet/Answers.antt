-- `crossing::do_meet` meets its contract: it is what its calls ensure, put together. Assumes nothing.
use mir.Facts.{to_z-of_z}
use Rattle.int.proofs.Words.{back32}
use Rattle.crossing.proofs.Seen.{does_meet}
use Rattle.crossing.proofs.do_meet.Goals as goal

pub returns : goal.returns
returns c = let m = c in let b = m in let a = b in let s = a in
    does_meet (to_z-of_z s.ranges.discriminant) (to_z-of_z s.ranges.dotproduct) (back32 a.wrapping_abs.result a.wrapping_abs.type_inv) a.wrapping_abs.ensures (back32 b.wrapping_abs-2.result b.wrapping_abs-2.type_inv) b.wrapping_abs-2.ensures (back32 m.wrapping_mul.result m.wrapping_mul.type_inv) m.wrapping_mul.ensures c.less.ensures
