-- `record_read::load_state` meets its contract. Assumes nothing.
use mathlib.Core.Path.{ap, refl, ◌∙◌}
use Rattle.state_words.specs.Words.{state_of}
use Rattle.record_read.proofs.load_state.Goals as goal

pub load_state_words-requires : goal.load_state_words-requires
load_state_words-requires c = refl

pub returns : goal.returns
returns c = c.read_state.ensures ∙ ap state_of c.load_state_words.ensures
