-- `line_alignrp::move_to_align` meets its contract: by what the two reads give. Assumes nothing.
use Rattle.std.specs.Prelude.{Ok}
use mathlib.Core.Path.{ap, ◌∙◌}
use Rattle.answer.proofs.Passed.{passed_on}
use Rattle.line_alignrp.proofs.Cases.{point_is, both_are, aligned_by}
use Rattle.int.proofs.Words.{back32}
use Rattle.line_alignrp.proofs.move_to_align.Goals as goal

pub returns-in_err-point : goal.returns-in_err-point
returns-in_err-point c = let a = c.args in
    passed_on _ c.from_residual.ensures.1 ∙ point_is a.s a.at a.gx.now a.gy.now a.tx.now a.ty.now c.fetch_in.ensures c.in_err-point.was

pub returns-in_err-reference : goal.returns-in_err-reference
returns-in_err-reference c = let a = c.args in
    passed_on _ c.from_residual-in_err-reference.ensures.1
    ∙ both_are a.s a.at a.gx.now a.gy.now a.tx.now a.ty.now c.fetch_in.ensures c.in_ok-point.was c.fetch_in-2.ensures c.in_err-reference.was

pub returns : goal.returns
returns c = let a = c.args in
    ap Ok (aligned_by a.s c.move_of.ensures (back32 c.wrapping_neg.result c.wrapping_neg.type_inv ∙ c.wrapping_neg.ensures) (back32 c.project-distance.result c.project-distance.type_inv ∙ c.project-distance.ensures))
    ∙ both_are a.s a.at a.gx.now a.gy.now a.tx.now a.ty.now c.fetch_in.ensures c.in_ok-point.was c.fetch_in-2.ensures c.in_ok-reference.was
