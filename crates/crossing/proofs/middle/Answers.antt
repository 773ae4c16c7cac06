-- `crossing::middle` meets its contract: it is what its calls ensure, put together. Assumes nothing.
use mir.Facts.{to_z-of_z}
use Rattle.int.proofs.Words.{back32}
use Rattle.crossing.proofs.Seen.{middle}
use Rattle.crossing.proofs.middle.Goals as goal

pub returns : goal.returns
returns c = let r = c in let q = r in let p = q in let s = p in
    middle (to_z-of_z s.ranges.a) (to_z-of_z s.ranges.b) (to_z-of_z s.ranges.c) (to_z-of_z s.ranges.d)
    (back32 p.wrapping_add.result p.wrapping_add.type_inv) p.wrapping_add.ensures (back32 q.wrapping_add-2.result q.wrapping_add-2.type_inv) q.wrapping_add-2.ensures (back32 r.wrapping_add-3.result r.wrapping_add-3.type_inv) r.wrapping_add-3.ensures (back32 c.wrapping_div.result c.wrapping_div.type_inv) c.wrapping_div.ensures
