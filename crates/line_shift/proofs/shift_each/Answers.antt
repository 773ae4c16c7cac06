-- `line_shift::shift_each` meets its contract. The invariant: what is left to do from k on is the whole (`Left`). Assumes nothing.
use Rattle.std.specs.Prelude.{Result, ⊤}
use mathlib.Core.Path.{sym, ap, ◌∙◌}
use lib.IntN.{pos}
use lib.ListN.{get_or}
use Rattle.answer.proofs.Passed.{passed_on}
use Rattle.answer.specs.declared.Refusal.{Refusal}
use Rattle.line_steps.proofs.Walk.{turned, finished, missing, stopped, begun, read}
use Rattle.line_steps.specs.Loop.{ended, points, points_left, shift_at}
use Rattle.line_shift.proofs.shift_each.Goals as goal

pub loop-k-init : goal.loop-k-init
loop-k-init c = let a = c.args in begun (shift_at a.m) a.count a.operands.now (points a.xs.now a.ys.now a.flags.now)

pub returns-then-operands-k : goal.returns-then-operands-k
returns-then-operands-k c = let v = c.loop-k in let a = c.args in
    missing (shift_at a.m) a.count a.operands.now v.k (points v.xs v.ys v.flags) c.loop-k-test.true c.if-operands-k.true ∙ v.invariant

pub apply-requires : goal.apply-requires
apply-requires c = let v = c.loop-k.auto in let p = c.requires in (v.ys ∙ p.0 ∙ sym v.xs, v.flags ∙ p.1 ∙ sym v.xs)

pub returns-in_err-apply : goal.returns-in_err-apply
returns-in_err-apply c = let v = c.loop-k in let a = c.args in
    ap (λ (said : Result ⊤ Refusal). ended said (points c.apply.new.xs c.apply.new.ys c.apply.new.flags)) (passed_on _ c.from_residual.ensures.1)
    ∙ stopped (shift_at a.m) a.count a.operands.now v.k (points v.xs v.ys v.flags) c.loop-k-test.true c.if-operands-k.false (read (get_or a.operands.now v.k (pos 0)) c.as_index-arg-1.given c.as_index-at.ensures) (ap points_left c.apply.ensures) c.in_err-apply.was ∙ v.invariant

pub loop-k-preserved : goal.loop-k-preserved
loop-k-preserved c = let v = c.loop-k in let a = c.args in
    turned (shift_at a.m) a.count a.operands.now v.k (points v.xs v.ys v.flags) c.loop-k-test.true c.if-operands-k.false (read (get_or a.operands.now v.k (pos 0)) c.as_index-arg-1.given c.as_index-at.ensures) (ap points_left c.apply.ensures) c.in_ok-apply.was ∙ v.invariant

pub returns : goal.returns
returns c = let v = c.loop-k in let a = c.args in
    finished (shift_at a.m) a.count a.operands.now v.k (points v.xs v.ys v.flags) c.loop-k-test.false ∙ v.invariant
