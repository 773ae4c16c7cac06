-- `line_mirp::mirp_found` meets its contract: by the control value, and then the two points. Assumes nothing.
use mathlib.Core.Path.{◌∙◌}
use native.Mathlib.Omega.{arith}
use Rattle.answer.proofs.Passed.{passed_on}
use Rattle.int.proofs.Words.{back32}
use Rattle.line_mirp.proofs.Cases.{found_no_control, found_outside, found_there}
use Rattle.line_mirp.proofs.mirp_found.Goals as goal

pub returns-in_err-value : goal.returns-in_err-value
returns-in_err-value c = passed_on _ c.from_residual.ensures.1 ∙ found_no_control c.args.m c.control_found-control.ensures c.reach-there.ensures c.in_err-value.was

pub returns-in_err-there : goal.returns-in_err-there
returns-in_err-there c = passed_on _ c.from_residual-in_err-there.ensures.1 ∙ found_outside c.args.m c.control_found-control.ensures c.reach-there.ensures c.in_ok-value.was c.in_err-there.was

pub returns : goal.returns
returns c = found_there c.args.m c.control_found-control.ensures c.reach-there.ensures c.in_ok-value.was c.in_ok-there.was
    (back32 _ (omega arith))
    (back32 c.args.m.single_width_cut_in (omega arith))
    (back32 c.args.m.single_width (omega arith))
    c.single_control.ensures
    (back32 c.single_control.result c.single_control.type_inv)
