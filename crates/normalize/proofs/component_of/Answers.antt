-- `normalize::component_of` meets its contract: by the sign. Assumes nothing.
use mir.Facts.{to_z-of_z}
use Rattle.int.proofs.Words.{back32}
use Rattle.normalize.proofs.Seen.{below, not_below}
use Rattle.normalize.proofs.component_of.Goals as goal

pub returns-then-below : goal.returns-then-below
returns-then-below c = let n = c in let s = n in
    below n.if-below.true (to_z-of_z s.ranges.w) (back32 n.wrapping_neg.result n.wrapping_neg.type_inv) n.wrapping_neg.ensures (back32 c.wrapping_div.result c.wrapping_div.type_inv) c.wrapping_div.ensures

pub returns-else-below : goal.returns-else-below
returns-else-below c = let s = c in not_below c.if-below.false (to_z-of_z s.ranges.w) (back32 c.wrapping_div-else-below.result c.wrapping_div-else-below.type_inv) c.wrapping_div-else-below.ensures
