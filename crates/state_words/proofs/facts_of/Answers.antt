-- `state_words::facts_of` meets its contract. Assumes nothing.
use mathlib.Core.Path.{◌∙◌, ap}
use Rattle.state_words.specs.Words.{fact_of, state_of}
use Rattle.state_words.proofs.Same.{same_facts}
use Rattle.state_words.proofs.facts_of.Goals as goal

pub returns : goal.returns
unfolding state_of
returns c =
    same_facts
    (c.fact_of-backward_compatibility.ensures ∙ ap fact_of c.word.ensures)
    (c.fact_of-pedantic.ensures ∙ ap fact_of c.word-2.ensures)
    (c.fact_of-native_clear_type_x.ensures ∙ ap fact_of c.word-3.ensures)
    (c.fact_of-did_iup_x.ensures ∙ ap fact_of c.word-4.ensures)
    (c.fact_of-did_iup_y.ensures ∙ ap fact_of c.word-5.ensures)
