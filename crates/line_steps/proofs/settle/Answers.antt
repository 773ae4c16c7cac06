-- `line_steps::settle` meets its contract: by what the move said. Assumes nothing.
use mathlib.Core.Path.{sym, ap, ◌∙◌}
use Rattle.line.specs.Line.{done_with}
use Rattle.line_steps.specs.Steps.{both_at, by_call, done_in, in_state, into, on_both, rounded_in}
use Rattle.line.specs.World.{World}
use Rattle.line_steps.proofs.settle.Goals as goal

pub returns-in-Ok : goal.returns-in-Ok
returns-in-Ok c =
    λ w. ap (into w) (c.done.ensures ∙ ap done_with (c.on_both.ensures ∙ ap (both_at c.args.at) c.with_rounding.ensures)) ∙ sym (ap (by_call (in_state w c.args.s) (λ (v : World). done_in (on_both c.args.at (rounded_in c.args.wrapped v)))) c.in-Ok.is)

pub returns-in-Err : goal.returns-in-Err
returns-in-Err c =
    λ w. ap (into w) c.refused.ensures ∙ sym (ap (by_call (in_state w c.args.s) (λ (v : World). done_in (on_both c.args.at (rounded_in c.args.wrapped v)))) c.in-Err.is)
