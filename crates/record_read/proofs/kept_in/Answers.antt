-- `record_read::kept_in` meets its contract. Assumes nothing.
use mathlib.Core.Path.{◌∙◌, ap}
use Rattle.record_read.specs.Read.{kept_by}
use Rattle.record_read.proofs.kept_in.Goals as goal

pub returns : goal.returns
returns c = c.kept_by.ensures ∙ ap kept_by c.trailer_word.ensures
