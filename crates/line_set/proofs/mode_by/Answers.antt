-- `line_set::mode_by` meets its contract: the definition computes at each number matched. Assumes nothing.
use mathlib.Core.Path.{ap, sym}
use Rattle.line_set.proofs.Cases.{other_mode}
use Rattle.line_set.specs.Setters.{mode_by}
use Rattle.line_set.proofs.mode_by.Goals as goal

pub returns-in-24 : goal.returns-in-24
unfolding mode_by
returns-in-24 c = sym (ap mode_by c.in-24.is)

pub returns-in-25 : goal.returns-in-25
unfolding mode_by
returns-in-25 c = sym (ap mode_by c.in-25.is)

pub returns-in-61 : goal.returns-in-61
unfolding mode_by
returns-in-61 c = sym (ap mode_by c.in-61.is)

pub returns-in-125 : goal.returns-in-125
unfolding mode_by
returns-in-125 c = sym (ap mode_by c.in-125.is)

pub returns-in-124 : goal.returns-in-124
unfolding mode_by
returns-in-124 c = sym (ap mode_by c.in-124.is)

pub returns-in_default : goal.returns-in_default
returns-in_default c = sym (other_mode c.args.opcode c.in_default.in_default-own.rest.0.0.0.0.1 c.in_default.in_default-own.rest.0.0.0.1 c.in_default.in_default-own.rest.0.0.1 c.in_default.in_default-own.rest.0.1 c.in_default.in_default-own.rest.1)
