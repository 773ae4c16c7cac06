-- `line_alignrp::align_point` meets its contract: by whether there is a move, which `apply_in` then lays on the zone. Assumes nothing.
use Rattle.std.specs.Prelude.{⊤, Result}
use mathlib.Core.Path.{ap, ◌∙◌}
use Rattle.answer.proofs.Passed.{passed_on}
use Rattle.answer.specs.declared.Refusal.{Refusal}
use Rattle.line_alignrp.proofs.Cases.{found_is}
use Rattle.line_alignrp.specs.Loop.{zones_left, align_by}
use Rattle.line_steps.specs.Loop.{ended, zones}
use Rattle.line_alignrp.proofs.align_point.Goals as goal

pub returns-in_err-m : goal.returns-in_err-m
unfolding align_by
returns-in_err-m c = let a = c.args in let z = zones a.gx.now a.gy.now a.gflags.now a.tx.now a.ty.now a.tflags.now in
    ap (λ (r : Result ⊤ Refusal). ended r z) (passed_on _ c.from_residual.ensures.1) ∙ found_is a.s a.at z c.move_to_align.ensures c.in_err-m.was

pub returns : goal.returns
unfolding align_by
returns c = let a = c.args in
    ap zones_left c.apply_in.ensures ∙ found_is a.s a.at (zones a.gx.now a.gy.now a.gflags.now a.tx.now a.ty.now a.tflags.now) c.move_to_align.ensures c.in_ok-m.was
