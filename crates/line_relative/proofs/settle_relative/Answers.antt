-- `line_relative::settle_relative` meets its contract: by what the move said, in any world. Assumes nothing.
use Rattle.std.specs.Prelude.{⊤, Result}
use Rattle.answer.specs.declared.Refusal.{Refusal}
use mathlib.Core.Path.{sym, ap, ◌∙◌}
use Rattle.line.specs.Line.{done_with}
use Rattle.line.specs.World.{Lined, World}
use Rattle.line_steps.specs.Steps.{by_call, done_in, in_state, into, rounded_in}
use Rattle.line_relative.specs.Relative.{related, related_by}
use Rattle.line_relative.proofs.settle_relative.Goals as goal
use Rattle.line_relative.proofs.settle_relative.Goals.{Start}

-- what the line comes to, by what the move said
abbrev settled : Start → World → Result ⊤ Refusal → Lined
settled s w = let a = s.args in by_call (in_state w a.s) (λ (v : World). done_in (related a.sets a.at (rounded_in a.wrapped v)))

pub returns-in-Ok : goal.returns-in-Ok
returns-in-Ok c = λ w. ap (into w) (c.done.ensures ∙ ap done_with (c.relate.ensures ∙ ap (related_by c.args.sets c.args.at) c.with_rounding.ensures))
    ∙ sym (ap (settled (goal.at.returns-in-Ok c).Start w) c.in-Ok.is)

pub returns-in-Err : goal.returns-in-Err
returns-in-Err c = λ w. ap (into w) c.refused.ensures ∙ sym (ap (settled (goal.at.returns-in-Err c).Start w) c.in-Err.is)
