-- `line_flip::flip_points` meets its contract: by whether points are held fast. Assumes nothing.
use Rattle.std.specs.Prelude.{⊤, Result}
use Rattle.answer.specs.declared.Refusal.{Refusal}
use mathlib.Core.Path.{sym, ap, ◌∙◌}
use mathlib.Core.Bool.{Bool}
use Rattle.line_steps.proofs.Walk.{passed}
use Rattle.line_steps.specs.Loop.{ended, each}
use Rattle.line_flip.specs.Steps.{flip_unless}
use Rattle.line_flip.proofs.flip_points.Goals as goal

pub returns-then-held : goal.returns-then-held
returns-then-held c = let a = c.args in let o = a.operands.now in let l = a.gflags.now in
    ap (λ (said : Result ⊤ Refusal). ended said l) c.take_each.ensures ∙ passed a.count o l ∙ sym (ap (λ (held : Bool). each (flip_unless held) a.count o l) c.if-held.true)

pub returns-else-held : goal.returns-else-held
returns-else-held c = let a = c.args in
    c.flip_each.ensures ∙ sym (ap (λ (held : Bool). each (flip_unless held) a.count a.operands.now a.gflags.now) c.if-held.false)
