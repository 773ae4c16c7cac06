-- `line_ip::interpolate_each` meets its contract. The invariant: what is left to do from k on is the whole (`Left`). Assumes nothing.
use Rattle.std.specs.Prelude.{Result, ⊤}
use mathlib.Core.Path.{ap, sym, ◌∙◌}
use Prim.Native.Nat.{ℕ}
use lib.IntN.{pos}
use lib.ListN.{get_or}
use Rattle.answer.proofs.Passed.{passed_on}
use Rattle.answer.specs.declared.Refusal.{Refusal}
use Rattle.line_ip.specs.Ip.{outline_place}
use Rattle.line_ip.specs.Loop.{interpolate_at}
use Rattle.line_steps.proofs.Walk.{turned, finished, missing, stopped, begun, read}
use Rattle.line_steps.specs.Loop.{Ended, Zones, ended, zones}
use Rattle.line_ip.proofs.interpolate_each.Goals as goal
use Rattle.line_ip.proofs.interpolate_each.Goals.{Start}

abbrev step_of : Start → ℕ → Zones → Ended Zones
step_of s = let a = s.args in
    interpolate_at a.v a.facts a.zone (outline_place a.twilight a.gux.now a.guy.now a.gox.now a.goy.now a.tox.now a.toy.now a.zone) a.t

pub loop-k-init : goal.loop-k-init
loop-k-init c = let a = c.args in begun (step_of (goal.at.loop-k-init c).Start) a.count a.operands.now (zones a.gx.now a.gy.now a.gflags.now a.tx.now a.ty.now a.tflags.now)

pub returns-then-operands-k : goal.returns-then-operands-k
returns-then-operands-k c = let v = c.loop-k in let a = c.args in
    missing (step_of (goal.at.returns-then-operands-k c).Start) a.count a.operands.now v.k (zones v.gx v.gy v.gflags v.tx v.ty v.tflags) c.loop-k-test.true c.if-operands-k.true ∙ v.invariant

pub interpolate_point-requires : goal.interpolate_point-requires
interpolate_point-requires c = let v = c.loop-k.auto in let p = c.requires in (v.gy ∙ p.0 ∙ sym v.gx, v.gflags ∙ p.1 ∙ sym v.gx, v.ty ∙ p.2 ∙ sym v.tx, v.tflags ∙ p.3 ∙ sym v.tx)

pub returns-in_err-interpolate_point : goal.returns-in_err-interpolate_point
returns-in_err-interpolate_point c = let v = c.loop-k in let a = c.args in
    ap (λ (said : Result ⊤ Refusal). ended said (zones c.interpolate_point.new.gx c.interpolate_point.new.gy c.interpolate_point.new.gflags c.interpolate_point.new.tx c.interpolate_point.new.ty c.interpolate_point.new.tflags)) (passed_on _ c.from_residual.ensures.1)
    ∙ stopped (step_of (goal.at.returns-in_err-interpolate_point c).Start) a.count a.operands.now v.k (zones v.gx v.gy v.gflags v.tx v.ty v.tflags) c.loop-k-test.true c.if-operands-k.false (read (get_or a.operands.now v.k (pos 0)) c.as_index-arg-1.given c.as_index-at.ensures) c.interpolate_point.ensures c.in_err-interpolate_point.was ∙ v.invariant

pub loop-k-preserved : goal.loop-k-preserved
loop-k-preserved c = let v = c.loop-k in let a = c.args in
    turned (step_of (goal.at.loop-k-preserved c).Start) a.count a.operands.now v.k (zones v.gx v.gy v.gflags v.tx v.ty v.tflags) c.loop-k-test.true c.if-operands-k.false (read (get_or a.operands.now v.k (pos 0)) c.as_index-arg-1.given c.as_index-at.ensures) c.interpolate_point.ensures c.in_ok-interpolate_point.was ∙ v.invariant

pub returns : goal.returns
returns c = let v = c.loop-k in let a = c.args in
    finished (step_of (goal.at.returns c).Start) a.count a.operands.now v.k (zones v.gx v.gy v.gflags v.tx v.ty v.tflags) c.loop-k-test.false ∙ v.invariant
