-- `state_words::tallies_of` meets its contract. Assumes nothing.
use mathlib.Core.Path.{◌∙◌}
use Rattle.int.proofs.Words.{back32}
use Rattle.state_words.specs.Words.{state_of}
use Rattle.state_words.proofs.Same.{same_tallies}
use Rattle.state_words.proofs.tallies_of.Goals as goal

pub returns : goal.returns
unfolding state_of
returns c = let n = c in same_tallies n.word-wrapped_roundings.ensures (back32 n.number-last_pushed.result n.number-last_pushed.type_inv ∙ n.number-last_pushed.ensures) c.word-pushes.ensures
