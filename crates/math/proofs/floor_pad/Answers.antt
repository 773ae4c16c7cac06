-- `math::floor_pad` meets its contract: it is what its calls ensure, put together. Assumes nothing.
use mir.Facts.{to_z-of_z}
use Rattle.int.proofs.Words.{back32}
use Rattle.math.proofs.Seen.{floor_pad}
use Rattle.math.proofs.floor_pad.Goals as goal

pub returns : goal.returns
returns c = let m = c in let s = m in floor_pad (to_z-of_z s.ranges.x) (to_z-of_z s.ranges.n) (back32 m.wrapping_neg.result m.wrapping_neg.type_inv) m.wrapping_neg.ensures (back32 c.bit_and.result c.bit_and.type_inv) c.bit_and.ensures
