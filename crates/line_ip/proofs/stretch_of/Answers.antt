-- `line_ip::stretch_of` meets its contract: it is what its calls ensure, put together. Assumes nothing.
use mathlib.Core.Path.{◌∙◌}
use Rattle.int.proofs.Words.{back32}
use Rattle.line_ip.proofs.Cases.{stretch_is}
use Rattle.line_ip.proofs.stretch_of.Goals as goal

pub returns : goal.returns
returns c = let a = c.args in
    stretch_is a.v a.original a.far_original a.current a.far_current (back32 c.dual_project.result c.dual_project.type_inv ∙ c.dual_project.ensures)
    (back32 c.project.result c.project.type_inv ∙ c.project.ensures)
