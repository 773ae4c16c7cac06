-- `line_measure::zero_or` meets its contract: by whether the state is pedantic, in any world. Assumes nothing.
use mathlib.Core.Path.{ap, ◌∙◌}
use Rattle.line.specs.Line.{done_with}
use Rattle.line_steps.specs.Steps.{in_state, into}
use Rattle.line_measure.proofs.Cases.{zero_lenient, zero_pedantic}
use Rattle.line_measure.proofs.zero_or.Goals as goal

pub returns-then-facts : goal.returns-then-facts
returns-then-facts c = let a = c.args in
    λ w. zero_pedantic (in_state w a.s) a.why c.if-facts.true (ap (into w) c.refused.ensures)

pub returns-else-facts : goal.returns-else-facts
returns-else-facts c = let a = c.args in
    λ w. zero_lenient (in_state w a.s) a.why c.if-facts.false (ap (into w) (c.done.ensures ∙ ap done_with c.with_push.ensures))
