-- `line_steps::on_both` meets its contract: one reference set, and then the other. Assumes nothing.
use mathlib.Core.Path.{ap, ◌∙◌}
use Rattle.graphics.specs.State.{rp1_at, with_references}
use Rattle.graphics.specs.declared.GraphicsState.{GraphicsState}
use Rattle.line_steps.proofs.on_both.Goals as goal

pub returns : goal.returns
returns c =
    c.with_rp1.ensures ∙ ap (λ (t : GraphicsState). with_references t (rp1_at t.references c.args.at)) c.with_rp0.ensures
