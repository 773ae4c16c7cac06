-- `line_relative::relate_or` meets its contract: by whether the state is pedantic, in any world. Assumes nothing.
use mathlib.Core.Path.{ap, ◌∙◌}
use Rattle.line.specs.Line.{done_with}
use Rattle.line_steps.specs.Steps.{in_state, into}
use Rattle.line_relative.proofs.Cases.{related_lenient, related_pedantic}
use Rattle.line_relative.proofs.relate_or.Goals as goal

pub returns-then-facts : goal.returns-then-facts
returns-then-facts c = let a = c.args in
    λ w. related_pedantic a.sets a.at (in_state w a.s) a.why c.if-facts.true (ap (into w) c.refused.ensures)

pub returns-else-facts : goal.returns-else-facts
returns-else-facts c = let a = c.args in
    λ w. related_lenient a.sets a.at (in_state w a.s) a.why c.if-facts.false (ap (into w) (c.done.ensures ∙ ap done_with c.relate.ensures))
