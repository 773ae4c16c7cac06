-- `line_alignrp::align_each` meets its contract. The invariant: what is left to do from k on is the whole (`Left`). Assumes nothing.
use Rattle.std.specs.Prelude.{Result, ⊤}
use mathlib.Core.Path.{ap, sym, ◌∙◌}
use lib.IntN.{pos}
use lib.ListN.{get_or}
use Rattle.answer.proofs.Passed.{passed_on}
use Rattle.answer.specs.declared.Refusal.{Refusal}
use Rattle.line_alignrp.specs.Loop.{align_at}
use Rattle.line_steps.proofs.Walk.{turned, finished, missing, stopped, begun, read}
use Rattle.line_steps.specs.Loop.{ended, zones}
use Rattle.line_alignrp.proofs.align_each.Goals as goal

pub loop-k-init : goal.loop-k-init
loop-k-init c = let a = c.args in begun (align_at a.s) a.count a.operands.now (zones a.gx.now a.gy.now a.gflags.now a.tx.now a.ty.now a.tflags.now)

pub returns-then-operands-k : goal.returns-then-operands-k
returns-then-operands-k c = let v = c.loop-k in let a = c.args in
    missing (align_at a.s) a.count a.operands.now v.k (zones v.gx v.gy v.gflags v.tx v.ty v.tflags) c.loop-k-test.true c.if-operands-k.true ∙ v.invariant

pub align_point-requires : goal.align_point-requires
align_point-requires c = let v = c.loop-k.auto in let p = c.requires in (v.gy ∙ p.0 ∙ sym v.gx, v.gflags ∙ p.1 ∙ sym v.gx, v.ty ∙ p.2 ∙ sym v.tx, v.tflags ∙ p.3 ∙ sym v.tx)

pub returns-in_err-align_point : goal.returns-in_err-align_point
returns-in_err-align_point c = let v = c.loop-k in let a = c.args in
    ap (λ (said : Result ⊤ Refusal). ended said (zones c.align_point.new.gx c.align_point.new.gy c.align_point.new.gflags c.align_point.new.tx c.align_point.new.ty c.align_point.new.tflags)) (passed_on _ c.from_residual.ensures.1)
    ∙ stopped (align_at a.s) a.count a.operands.now v.k (zones v.gx v.gy v.gflags v.tx v.ty v.tflags) c.loop-k-test.true c.if-operands-k.false (read (get_or a.operands.now v.k (pos 0)) c.as_index-arg-1.given c.as_index-at.ensures) c.align_point.ensures c.in_err-align_point.was ∙ v.invariant

pub loop-k-preserved : goal.loop-k-preserved
loop-k-preserved c = let v = c.loop-k in let a = c.args in
    turned (align_at a.s) a.count a.operands.now v.k (zones v.gx v.gy v.gflags v.tx v.ty v.tflags) c.loop-k-test.true c.if-operands-k.false (read (get_or a.operands.now v.k (pos 0)) c.as_index-arg-1.given c.as_index-at.ensures) c.align_point.ensures c.in_ok-align_point.was ∙ v.invariant

pub returns : goal.returns
returns c = let v = c.loop-k in let a = c.args in
    finished (align_at a.s) a.count a.operands.now v.k (zones v.gx v.gy v.gflags v.tx v.ty v.tflags) c.loop-k-test.false ∙ v.invariant
