-- `state_words::word_of` meets its contract: each part stands behind those before it. Assumes nothing.
use mathlib.Core.Path.{◌∙◌, ap}
use native.Mathlib.Omega.{arith}
use Rattle.int.proofs.Words.{back32}
use Rattle.int.specs.Word.{bits_of}
use Rattle.state_words.proofs.Places.{cut_in_at, distances_at, facts_at, loop_at, pointers_at, pushes_at, references_at, round_at, vectors_at, wrapped_at}
use Rattle.state_words.proofs.word_of.Goals as goal

pub returns-then-k-lt-ROUND : goal.returns-then-k-lt-ROUND
returns-then-k-lt-ROUND c = let a = c.args in c.vectors_word.ensures ∙ vectors_at a.s a.k c.if-k-lt-ROUND.true

pub returns-then-k-lt-REFERENCES : goal.returns-then-k-lt-REFERENCES
returns-then-k-lt-REFERENCES c = let a = c.args in c.round_word.ensures ∙ round_at a.s a.k c.if-k-lt-ROUND.false c.if-k-lt-REFERENCES.true

pub returns-then-k-lt-LOOP_COUNTER : goal.returns-then-k-lt-LOOP_COUNTER
returns-then-k-lt-LOOP_COUNTER c = let a = c.args in c.references_word.ensures ∙ references_at a.s a.k c.if-k-lt-REFERENCES.false c.if-k-lt-LOOP_COUNTER.true

pub returns-then-k-lt-POINTERS : goal.returns-then-k-lt-POINTERS
returns-then-k-lt-POINTERS c = let a = c.args in loop_at a.s a.k c.if-k-lt-LOOP_COUNTER.false c.if-k-lt-POINTERS.true

pub returns-then-k-lt-FACTS : goal.returns-then-k-lt-FACTS
returns-then-k-lt-FACTS c = let a = c.args in c.pointers_word.ensures ∙ pointers_at a.s a.k c.if-k-lt-POINTERS.false c.if-k-lt-FACTS.true

pub returns-then-k-lt-CUT_IN : goal.returns-then-k-lt-CUT_IN
returns-then-k-lt-CUT_IN c = let a = c.args in c.facts_word.ensures ∙ facts_at a.s a.k c.if-k-lt-FACTS.false c.if-k-lt-CUT_IN.true

pub returns-then-k-lt-WRAPPED_ROUNDINGS : goal.returns-then-k-lt-WRAPPED_ROUNDINGS
returns-then-k-lt-WRAPPED_ROUNDINGS c = let a = c.args in let e = c in
    c.to_bits.ensures ∙ ap bits_of (back32 a.s.measures.cut_in (omega (arith, c.struct_told-1.given))) ∙ cut_in_at a.s a.k e.if-k-lt-CUT_IN.false e.if-k-lt-WRAPPED_ROUNDINGS.true

pub returns-then-k-lt-DISTANCES : goal.returns-then-k-lt-DISTANCES
returns-then-k-lt-DISTANCES c = let a = c.args in wrapped_at a.s a.k c.if-k-lt-WRAPPED_ROUNDINGS.false c.if-k-lt-DISTANCES.true

pub returns-then-k-lt-PUSHES : goal.returns-then-k-lt-PUSHES
returns-then-k-lt-PUSHES c = let a = c.args in
    c.distances_word.ensures ∙ distances_at a.s a.k c.if-k-lt-DISTANCES.false c.if-k-lt-PUSHES.true

pub returns-else-k-lt-PUSHES : goal.returns-else-k-lt-PUSHES
returns-else-k-lt-PUSHES c = let a = c.args in
    c.pushes_word.ensures ∙ pushes_at a.s a.k c.if-k-lt-PUSHES.false
