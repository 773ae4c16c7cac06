-- `line_vectors::line_by` meets its contract: by where the two points were found, the first first. Assumes nothing.
use mathlib.Core.Path.{◌∙◌}
use Rattle.answer.proofs.Passed.{passed_on}
use Rattle.line_vectors.proofs.Cases.{first_out, second_out, both_there}
use Rattle.line_vectors.proofs.line_by.Goals as goal

pub returns-in_err-p : goal.returns-in_err-p
returns-in_err-p c = let a = c.args in passed_on _ c.from_residual.ensures.1 ∙ first_out a.across a.second c.in_err-p.was

pub returns-in_err-q : goal.returns-in_err-q
returns-in_err-q c = let a = c.args in passed_on _ c.from_residual-in_err-q.ensures.1 ∙ second_out a.across c.in_ok-p.was c.in_err-q.was

pub returns : goal.returns
returns c = let a = c.args in both_there a.across c.in_ok-p.was c.in_ok-q.was c.line_vector.ensures
