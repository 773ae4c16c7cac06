-- `line_mdap::outside_mdap` meets its contract: by whether the state is pedantic, in any world. Assumes nothing.
use mathlib.Core.Path.{ap, ◌∙◌}
use Rattle.line.specs.Line.{done_with}
use Rattle.line_steps.specs.Steps.{in_state, into}
use Rattle.line_mdap.proofs.Cases.{outside_lenient, outside_pedantic}
use Rattle.line_mdap.proofs.outside_mdap.Goals as goal

pub returns-then-facts : goal.returns-then-facts
returns-then-facts c = λ w. outside_pedantic c.args.at (in_state w c.args.s) c.args.why c.if-facts.true (ap (into w) c.refused.ensures)

pub returns-else-facts : goal.returns-else-facts
returns-else-facts c = λ w. outside_lenient c.args.at (in_state w c.args.s) c.args.why c.if-facts.false (ap (into w) (c.done.ensures ∙ ap done_with c.on_both.ensures))
