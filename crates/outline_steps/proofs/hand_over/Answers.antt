-- `outline_steps::hand_over` meets its contract: by whether the step is near. Assumes nothing.
use mathlib.Core.Path.{sym, ◌∙◌}
use Rattle.outline_steps.proofs.Cases.{handed_over, held_back}
use Rattle.outline_steps.proofs.hand_over.Goals as goal

-- src/lib.rt:283:1
pub returns-then-is_near : goal.returns-then-is_near
returns-then-is_near c = let s = c in let a = s.args in
    let n = c in let t = c in
    handed_over a.pen a.s (sym n.is_near.ensures ∙ t.if-is_near.true) c.step_of-step.ensures c.drawn-bounds.ensures

-- src/lib.rt:283:1
pub returns-else-is_near : goal.returns-else-is_near
returns-else-is_near c = let s = c in let a = s.args in
    let n = c in held_back a.pen a.s (sym n.is_near.ensures ∙ c.if-is_near.false)
