-- `outline_print::put_outline` meets its contract: step by step, and the box at the end. Assumes nothing.
use lib.ListN.{length}
use Rattle.outline_steps.proofs.OneByOne.{remaining}
use Rattle.outline_steps.specs.Outline.{glyph}
use Rattle.outline_print.proofs.Outlined.{Drawing}
use Rattle.outline_print.proofs.put_outline.Given as goal

abbrev pub invariant-loop-s : goal.invariant-loop-s
invariant-loop-s l = Drawing (glyph l.xs l.ys l.flags l.contours) l.at l.initial.text l.text l.walk l.framed l.next

abbrev pub decreases-loop-s : goal.decreases-loop-s
decreases-loop-s l = length (remaining (glyph l.xs l.ys l.flags l.contours) l.walk)
