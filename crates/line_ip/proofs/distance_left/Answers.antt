-- `line_ip::distance_left` meets its contract: it is what its calls ensure, put together. Assumes nothing.
use mathlib.Core.Path.{◌∙◌}
use native.Mathlib.Omega.{arith}
use Rattle.int.proofs.Words.{back32}
use Rattle.line_ip.proofs.Cases.{left_is}
use Rattle.line_ip.proofs.distance_left.Goals as goal

pub returns : goal.returns
returns c = let a = c.args in
    left_is a.v a.t a.outline a.place (back32 a.t.was (omega (arith, c.struct_told-1.given))) (back32 a.t.is (omega (arith, c.struct_told-2-1.given)))
    (back32 c.dual_project.result c.dual_project.type_inv ∙ c.dual_project.ensures) (back32 c.stretched-wanted.result c.stretched-wanted.type_inv ∙ c.stretched-wanted.ensures)
    (back32 c.project.result c.project.type_inv ∙ c.project.ensures) (back32 c.wrapping_sub.result c.wrapping_sub.type_inv ∙ c.wrapping_sub.ensures)
