-- `exports::write_answer` meets its contract: four words written one after the other are all of them. Assumes nothing.
use mathlib.Core.Path.{◌∙◌, ap}
use lib.ListN.{set}
use Prim.Native.Nat.{ℕ}
use Rattle.exports.proofs.Cases.{four_set, none_set}
use Rattle.exports.proofs.write_answer.Goals as goal

pub returns-then-answer-eq-ANSWER_WORDS : goal.returns-then-answer-eq-ANSWER_WORDS
returns-then-answer-eq-ANSWER_WORDS c = let a = c.args in ap (λ (n : ℕ). set (set (set (set a.answer.now 0 n) 1 a.place) 2 a.lines) 3 a.detail) c.widen.ensures ∙ four_set a.answer.now a.number a.place a.lines a.detail c.if-answer-eq-ANSWER_WORDS.true

pub returns-else-answer-eq-ANSWER_WORDS : goal.returns-else-answer-eq-ANSWER_WORDS
returns-else-answer-eq-ANSWER_WORDS c = let a = c.args in none_set a.answer.now a.number a.place a.lines a.detail c.if-answer-eq-ANSWER_WORDS.false
