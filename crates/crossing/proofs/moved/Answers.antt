-- `crossing::moved` meets its contract: it is what its calls ensure, put together. Assumes nothing.
use mir.Facts.{to_z-of_z}
use Rattle.int.proofs.Words.{back32}
use Rattle.crossing.proofs.Seen.{moved}
use Rattle.crossing.proofs.moved.Goals as goal

pub returns : goal.returns
returns c = let m = c in let s = m in
    moved (to_z-of_z s.ranges.at) (to_z-of_z s.ranges.d) (to_z-of_z s.ranges.v) (to_z-of_z s.ranges.discriminant) (back32 m.mul_div.result m.mul_div.type_inv) m.mul_div.ensures (back32 c.wrapping_add.result c.wrapping_add.type_inv) c.wrapping_add.ensures
