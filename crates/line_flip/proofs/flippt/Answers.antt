-- `line_flip::flippt` meets its contract: one point is what `flip_one` ensures and the loop what `flip_points` ensures, and then the counter is put back. Assumes nothing.
use Prim.Native.Nat.{ℕ}
use mathlib.Core.Path.{ap, sym, ◌∙◌}
use Rattle.graphics.specs.declared.GraphicsState.{GraphicsState}
use Rattle.line.specs.World.{world}
use Rattle.line_steps.specs.Loop.{each}
use Rattle.line_flip.specs.Steps.{flip_unless}
use Rattle.line_flip.proofs.Bridge.{flippt_is}
use Rattle.line_flip.proofs.flippt.Goals as goal

-- the counter says so
pub returns-then-count-eq1 : goal.returns-then-count-eq1
returns-then-count-eq1 c = let a = c.args in
    λ f opcode gx gy tox toy tx ty tflags. flippt_is f opcode a.operands.now (world a.s gx gy a.gflags.now tox toy tx ty tflags)
    (ap (λ (s : GraphicsState). record { call = c.flip_one-call.result; state = s }) (c.by_words.ensures ∙ c.reset_loop_counter.ensures))
    c.past_both_iups-held.ensures
    (c.flip_one-call.ensures ∙ sym (ap (λ (n : ℕ). each (flip_unless c.past_both_iups-held.result) n a.operands.now a.gflags.now) c.if-count-eq1.true))

pub returns : goal.returns
returns c = let a = c.args in
    λ f opcode gx gy tox toy tx ty tflags. flippt_is f opcode a.operands.now (world a.s gx gy a.gflags.now tox toy tx ty tflags)
    (ap (λ (s : GraphicsState). record { call = c.flip_points-call.result; state = s }) (c.by_words-2.ensures ∙ c.reset_loop_counter-2.ensures))
    c.past_both_iups-held.ensures
    c.flip_points-call.ensures
