-- `line_flip::flip_each` meets its contract. The invariant: what is left to do from k on is the whole (`Left`). Assumes nothing.
use Rattle.std.specs.Prelude.{Result, ⊤}
use mathlib.Core.Path.{ap, ◌∙◌}
use lib.IntN.{pos}
use lib.ListN.{get_or}
use Rattle.answer.proofs.Passed.{passed_on}
use Rattle.answer.specs.declared.Refusal.{Refusal}
use Rattle.line_steps.specs.Loop.{ended}
use Rattle.line_steps.proofs.Walk.{turned, finished, missing, stopped, begun, read}
use Rattle.line_flip.specs.Steps.{flags_left, flip_at}
use Rattle.line_flip.proofs.flip_each.Goals as goal

pub loop-k-init : goal.loop-k-init
loop-k-init c = let a = c.args in begun flip_at a.count a.operands.now a.gflags.now

pub returns-then-operands-k : goal.returns-then-operands-k
returns-then-operands-k c = let a = c.args in
    missing flip_at a.count a.operands.now c.loop-k.k c.loop-k.gflags c.loop-k-test.true c.if-operands-k.true ∙ c.loop-k.invariant

pub returns-in_err-flip_on_curve : goal.returns-in_err-flip_on_curve
returns-in_err-flip_on_curve c = let a = c.args in
    ap (λ (said : Result ⊤ Refusal). ended said c.flip_on_curve.new.flags) (passed_on _ c.from_residual.ensures.1)
    ∙ stopped flip_at a.count a.operands.now c.loop-k.k c.loop-k.gflags c.loop-k-test.true c.if-operands-k.false (read (get_or a.operands.now c.loop-k.k (pos 0)) c.as_index-arg-1.given c.as_index-at.ensures) (ap flags_left c.flip_on_curve.ensures) c.in_err-flip_on_curve.was ∙ c.loop-k.invariant

pub loop-k-preserved : goal.loop-k-preserved
loop-k-preserved c = let a = c.args in
    turned flip_at a.count a.operands.now c.loop-k.k c.loop-k.gflags c.loop-k-test.true c.if-operands-k.false (read (get_or a.operands.now c.loop-k.k (pos 0)) c.as_index-arg-1.given c.as_index-at.ensures) (ap flags_left c.flip_on_curve.ensures) c.in_ok-flip_on_curve.was ∙ c.loop-k.invariant

pub returns : goal.returns
returns c = let a = c.args in
    finished flip_at a.count a.operands.now c.loop-k.k c.loop-k.gflags c.loop-k-test.false ∙ c.loop-k.invariant
