-- `line_shift::shift_points` meets its contract: by whether the move is idle. Assumes nothing.
use Rattle.std.specs.Prelude.{⊤, Result}
use Rattle.answer.specs.declared.Refusal.{Refusal}
use mathlib.Core.Path.{sym, ap, ◌∙◌}
use mathlib.Core.Bool.{Bool, cond}
use Rattle.line_steps.proofs.Walk.{passed}
use Rattle.line_steps.specs.Loop.{each, ended, pass, points, shift_at}
use Rattle.line_shift.proofs.shift_points.Goals as goal

pub returns-then-is_idle : goal.returns-then-is_idle
returns-then-is_idle c = let a = c.args in
    ap (λ (said : Result ⊤ Refusal). ended said (points a.xs.now a.ys.now a.flags.now)) c.take_each.ensures ∙ passed a.count a.operands.now (points a.xs.now a.ys.now a.flags.now)
    ∙ sym (ap (λ (idle : Bool). each (cond idle pass (shift_at a.m)) a.count a.operands.now (points a.xs.now a.ys.now a.flags.now)) (sym c.is_idle.ensures ∙ c.if-is_idle.true))

pub returns-else-is_idle : goal.returns-else-is_idle
returns-else-is_idle c = let a = c.args in
    c.shift_each.ensures
    ∙ sym (ap (λ (idle : Bool). each (cond idle pass (shift_at a.m)) a.count a.operands.now (points a.xs.now a.ys.now a.flags.now)) (sym c.is_idle.ensures ∙ c.if-is_idle.false))
