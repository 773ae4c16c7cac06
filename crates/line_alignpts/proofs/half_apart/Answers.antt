-- `line_alignpts::half_apart` meets its contract: by where the two points were found, the first first. Assumes nothing.
use mathlib.Core.Path.{◌∙◌}
use Rattle.answer.proofs.Passed.{passed_on}
use Rattle.int.proofs.Words.{back32}
use Rattle.line_alignpts.proofs.Cases.{both_found, first_out, second_out}
use Rattle.line_alignpts.proofs.half_apart.Goals as goal

pub returns-in_err-there : goal.returns-in_err-there
returns-in_err-there c = let a = c.args in
    passed_on _ c.from_residual.ensures.1 ∙ first_out a.v a.second c.in_err-there.was

pub returns-in_err-here : goal.returns-in_err-here
returns-in_err-here c = let a = c.args in
    passed_on _ c.from_residual-in_err-here.ensures.1 ∙ second_out a.v a.second c.in_ok-there.was c.in_err-here.was

pub returns : goal.returns
returns c = let a = c.args in
    both_found a.v a.second c.in_ok-there.was c.in_ok-here.was (back32 c.project.result c.project.type_inv ∙ c.project.ensures)
    (back32 c.wrapping_div.result c.wrapping_div.type_inv ∙ c.wrapping_div.ensures)
