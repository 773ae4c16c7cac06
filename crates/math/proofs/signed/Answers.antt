-- `math::signed` meets its contract: by the sign; a magnitude below 2 ^ 63 is itself at 64 bits. Assumes nothing.
use mir.Syntax.{w64}
use mir.Facts.{to_z_pos}
use Rattle.int.proofs.Words.{back32}
use Rattle.math.proofs.Seen.{below, not_below}
use Rattle.math.proofs.signed.Goals as goal

pub returns-then-below : goal.returns-then-below
returns-then-below c = let w = c in let s = w in below (to_z_pos w64 s.requires) (back32 w.low32-word.result w.low32-word.type_inv) w.low32-word.ensures c.if-below.true (back32 c.wrapping_neg.result c.wrapping_neg.type_inv) c.wrapping_neg.ensures

pub returns-else-below : goal.returns-else-below
returns-else-below c = let w = c in let s = w in not_below (to_z_pos w64 s.requires) (back32 w.low32-word.result w.low32-word.type_inv) w.low32-word.ensures c.if-below.false
