-- `outline_calls::is_pen` meets its contract: by the number of words. Assumes nothing.
use borrow.Author.Tests.{eq-eqb, ne_eqb}
use lib.ListN.{length}
use Rattle.outline_calls.specs.Slots.{is_pen}
use Rattle.outline_calls.proofs.is_pen.Goals as goal

-- src/lib.rt:91:1
pub returns-then-words-eq-PEN_WORDS : goal.returns-then-words-eq-PEN_WORDS
unfolding is_pen
returns-then-words-eq-PEN_WORDS c = let a = c.args in
    rw (eq-eqb (length a.words.now) 9 c.if-words-eq-PEN_WORDS.true)

-- src/lib.rt:91:1
pub returns-else-words-eq-PEN_WORDS : goal.returns-else-words-eq-PEN_WORDS
unfolding is_pen
returns-else-words-eq-PEN_WORDS c = let a = c.args in
    rw (ne_eqb (length a.words.now) 9 c.if-words-eq-PEN_WORDS.false)
