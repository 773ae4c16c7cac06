-- `state_words::round_of` meets its contract. Assumes nothing.
use mathlib.Core.Path.{◌∙◌, ap}
use Rattle.int.proofs.Words.{back32}
use Rattle.state_words.specs.Words.{mode_of, state_of}
use Rattle.state_words.proofs.Same.{same_round}
use Rattle.state_words.proofs.round_of.Goals as goal

pub returns : goal.returns
unfolding state_of
returns c =
    same_round (c.mode_of-mode.ensures ∙ ap mode_of c.word.ensures) (back32 c.number-threshold.result c.number-threshold.type_inv ∙ c.number-threshold.ensures) (back32 c.number-phase.result c.number-phase.type_inv ∙ c.number-phase.ensures) (back32 c.number-period.result c.number-period.type_inv ∙ c.number-period.ensures)
