-- `record_read::state_fits` meets its contract. Assumes nothing.
use mathlib.Core.Path.{ap, refl, ◌∙◌}
use Rattle.state_words.specs.Words.{is_state}
use Rattle.record_read.proofs.state_fits.Goals as goal

pub load_state_words-requires : goal.load_state_words-requires
load_state_words-requires c = refl

pub returns : goal.returns
returns c = c.is_state.ensures ∙ ap is_state c.load_state_words.ensures
