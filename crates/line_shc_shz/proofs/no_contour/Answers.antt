-- `line_shc_shz::no_contour` meets its contract: by whether the state is pedantic, in any world. Assumes nothing.
use mathlib.Core.Path.{ap}
use Rattle.answer.specs.declared.Refusal.TheVariants.{Contour}
use Rattle.line_steps.proofs.Laws.{passed_lenient, passed_pedantic}
use Rattle.line_steps.specs.Steps.{in_state, into}
use Rattle.line_shc_shz.proofs.no_contour.Goals as goal

pub returns-then-facts : goal.returns-then-facts
returns-then-facts c = let a = c.args in
    λ w. passed_pedantic (in_state w a.s) (Contour a.index) c.if-facts.true (ap (into w) c.refused.ensures)

pub returns-else-facts : goal.returns-else-facts
returns-else-facts c = let a = c.args in
    λ w. passed_lenient (in_state w a.s) (Contour a.index) c.if-facts.false (ap (into w) c.done.ensures)
