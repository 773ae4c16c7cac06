-- `line::index_at` meets its contract: the operand, read and widened. Assumes nothing.
use mathlib.Core.Path.{ap, ◌∙◌}
use Rattle.int.specs.Word.{index_of}
use Rattle.int.proofs.Words.{back32}
use Rattle.line.proofs.index_at.Goals as goal

pub returns : goal.returns
returns c = let k = c in
    c.as_index.ensures ∙ ap index_of (back32 k.coordinate_or_0.result k.coordinate_or_0.type_inv ∙ k.coordinate_or_0.ensures)
