-- `math::round_pad` meets its contract: it is what its calls ensure, put together. Assumes nothing.
use mir.Facts.{to_z-of_z}
use Rattle.int.proofs.Words.{back32}
use Rattle.math.proofs.Seen.{round_pad}
use Rattle.math.proofs.round_pad.Goals as goal

pub returns : goal.returns
returns c = let a = c in let q = a in let s = q in
    round_pad (to_z-of_z s.ranges.x) (to_z-of_z s.ranges.n) (back32 q.wrapping_div.result q.wrapping_div.type_inv) q.wrapping_div.ensures (back32 a.wrapping_add.result a.wrapping_add.type_inv) a.wrapping_add.ensures (back32 c.floor_pad.result c.floor_pad.type_inv) c.floor_pad.ensures
