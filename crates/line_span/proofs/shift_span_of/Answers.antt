-- `line_span::shift_span_of` meets its contract: by whether the reference point is there; then the span is what `shift_span_in` ensures. Assumes nothing.
use Rattle.std.specs.Prelude.{⊤, Result}
use mathlib.Core.Path.{ap, ◌∙◌}
use native.Mathlib.Omega.{arith}
use Rattle.answer.proofs.Passed.{passed_on}
use Rattle.answer.specs.declared.Refusal.{Refusal}
use Rattle.int.proofs.Words.{back32}
use Rattle.line_steps.specs.Loop.{Zones, ended, zones}
use Rattle.line_span.proofs.Cases.{span_out, span_there}
use Rattle.line_span.proofs.shift_span_of.Goals as goal
use Rattle.line_span.proofs.shift_span_of.Goals.{Start}

-- the lists as they are lent
abbrev entry : Start → Zones
entry b = let a = b.args in zones a.gx.now a.gy.now a.gflags.now a.tx.now a.ty.now a.tflags.now

pub displaced_in-requires : goal.displaced_in-requires
displaced_in-requires c = let p = c.requires in (p.0, p.1, p.3, p.4)

pub shift_span_in-requires : goal.shift_span_in-requires
shift_span_in-requires c = let p = c.requires in (p.1, p.2, p.4, p.5)

pub returns-in_err-d : goal.returns-in_err-d
returns-in_err-d c = let a = c.args in let z = entry (goal.at.returns-in_err-d c).Start in
    ap (λ (r : Result ⊤ Refusal). ended r z) (passed_on _ c.from_residual.ensures.1)
    ∙ span_out a.v a.f a.zp2 a.reference a.touches a.start a.end a.gox.now a.goy.now a.tox.now a.toy.now z c.displaced_in.ensures c.in_err-d.was

pub returns : goal.returns
returns c = let a = c.args in
    span_there a.v a.f a.zp2 a.reference a.touches a.start a.end a.gox.now a.goy.now a.tox.now a.toy.now (entry (goal.at.returns c).Start) c.displaced_in.ensures c.in_ok-d.was
    c.zp2_move_of-m.ensures
    (back32 _ (omega arith))
    (back32 _ (omega arith))
    c.same_zone-keeps.ensures
    c.shift_span_in.ensures
