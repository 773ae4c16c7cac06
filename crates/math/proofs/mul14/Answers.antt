-- `math::mul14` meets its contract: it is what its calls ensure, put together. Assumes nothing.
use mir.Facts.{to_z-of_z}
use Rattle.int.proofs.Words.{back32, back64}
use Rattle.math.proofs.Seen.{mul14}
use Rattle.math.proofs.mul14.Goals as goal

pub returns : goal.returns
returns c = let h = c in let p = h in let s = p in mul14 (to_z-of_z s.ranges.a) (to_z-of_z s.ranges.b) (back64 p.product.result p.product.type_inv) p.product.ensures (back64 h.half14.result h.half14.type_inv) h.half14.ensures (back32 c.low32.result c.low32.type_inv) c.low32.ensures
