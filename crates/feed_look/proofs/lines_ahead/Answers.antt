-- `feed_look::lines_ahead` meets its contract: every turn passes one whole line. The measure is what is left of the sheet. Assumes nothing.
use native.Mathlib.Omega.{arith}
use Rattle.feed_look.proofs.Counts.{count_end, count_start, count_turn, turn_inside}
use Rattle.feed_look.proofs.lines_ahead.Goals as goal

pub loop-words-init : goal.loop-words-init
loop-words-init c = count_start c.args.sheet.now c.args.at c.requires

pub overflow_add-end : goal.overflow_add-end
overflow_add-end c = omega (arith, turn_inside c.loop-words.invariant c.in-Whole.ensures, c.well_formed.0.1)

pub loop-words-smaller : goal.loop-words-smaller
loop-words-smaller c = omega (arith, turn_inside c.loop-words.invariant c.in-Whole.ensures)

pub loop-words-preserved : goal.loop-words-preserved
loop-words-preserved c = count_turn c.loop-words.invariant c.in-Whole.ensures

pub returns : goal.returns
returns c = count_end c.loop-words.invariant c.look.ensures c.in_default.not-Whole
