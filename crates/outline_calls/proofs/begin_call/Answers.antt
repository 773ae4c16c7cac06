-- `outline_calls::begin_call` meets its contract: by the number of words, and by what was begun. Assumes nothing.
use Rattle.outline_steps.specs.Outline.{glyph}
use Rattle.outline_calls.proofs.Cases.{starts, refuses, no_pen}
use Rattle.outline_calls.proofs.begin_call.Goals as goal

-- src/lib.rt:268:1
pub returns-in-Ok : goal.returns-in-Ok
returns-in-Ok c = let a = c.args in
    starts (glyph a.xs.now a.ys.now a.flags.now a.contours.now) a.words.now c.if-words-eq-PEN_WORDS.true c.begin-begun.ensures c.in-Ok.is c.write_pen.ensures

-- src/lib.rt:268:1
pub returns-in-Err : goal.returns-in-Err
returns-in-Err c = let a = c.args in
    refuses (glyph a.xs.now a.ys.now a.flags.now a.contours.now) a.words.now c.if-words-eq-PEN_WORDS.true c.begin-begun.ensures c.in-Err.is c.number.ensures

-- src/lib.rt:268:1
pub returns-else-words-eq-PEN_WORDS : goal.returns-else-words-eq-PEN_WORDS
returns-else-words-eq-PEN_WORDS c = let a = c.args in
    no_pen (glyph a.xs.now a.ys.now a.flags.now a.contours.now) a.words.now c.if-words-eq-PEN_WORDS.false
