-- `line_steps::from_origin` meets its contract: it is what `project` ensures. Assumes nothing.
use mathlib.Core.Path.{◌∙◌}
use Rattle.int.proofs.Words.{back32}
use Rattle.line_steps.specs.Numbers.{from_origin}
use Rattle.line_steps.proofs.from_origin.Goals as goal

pub returns : goal.returns
unfolding from_origin
returns c = back32 c.project.result c.project.type_inv ∙ c.project.ensures
