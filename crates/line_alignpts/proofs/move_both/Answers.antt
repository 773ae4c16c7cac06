-- `line_alignpts::move_both` meets its contract: by what the first move says. Assumes nothing.
use mathlib.Core.List.{List}
use Rattle.std.specs.Prelude.{⊤, Result}
use mathlib.Core.Path.{ap, sym, ◌∙◌}
use mir.Facts.{to_z-of_z}
use lib.IntN.{ℤ}
use Rattle.answer.proofs.Passed.{passed_on}
use Rattle.answer.specs.declared.Refusal.{Refusal}
use Rattle.int.proofs.Words.{back32}
use Rattle.line.specs.World.{World, lined, world}
use Rattle.line_alignpts.proofs.Cases.{both_moved, there_refused}
use Rattle.line_alignpts.proofs.move_both.Goals as goal
use Rattle.line_alignpts.proofs.move_both.Goals.{Start}

-- ---- places of the walk, found by their types
abbrev entry : Start → List ℤ → List ℤ → World
entry s tox toy = let a = s.args in
    world a.s a.gx.now a.gy.now a.gflags.now tox toy a.tx.now a.ty.now a.tflags.now

pub apply_in-requires : goal.apply_in-requires
apply_in-requires c = c.requires

pub apply_in-requires-2 : goal.apply_in-requires-2
apply_in-requires-2 c = let p = c.requires in (
  c.apply_in.auto.gy ∙ p.0 ∙ sym c.apply_in.auto.gx,
  c.apply_in.auto.gflags ∙ p.1 ∙ sym c.apply_in.auto.gx,
  c.apply_in.auto.ty ∙ p.2 ∙ sym c.apply_in.auto.tx,
  c.apply_in.auto.tflags ∙ p.3 ∙ sym c.apply_in.auto.tx,
)

pub returns-in_err-apply_in : goal.returns-in_err-apply_in
returns-in_err-apply_in c = let a = c.args in
    let n = c.apply_in.new in
    λ tox toy. ap (λ (r : Result ⊤ Refusal). lined (record { call = r; state = a.s }) n.gx n.gy n.gflags tox toy n.tx n.ty n.tflags) (passed_on _ c.from_residual.ensures.1)
    ∙ there_refused a.half a.first a.second (entry (goal.at.returns-in_err-apply_in c).Start tox toy) (to_z-of_z c.ranges.half) c.move_of-there.ensures c.apply_in.ensures c.in_err-apply_in.was

pub returns : goal.returns
returns c = let a = c.args in
    λ tox toy. both_moved a.half a.first a.second (entry (goal.at.returns c).Start tox toy) (to_z-of_z c.ranges.half) c.move_of-there.ensures c.apply_in.ensures c.in_ok-apply_in.was
    (back32 c.wrapping_neg.result c.wrapping_neg.type_inv ∙ c.wrapping_neg.ensures) c.move_of-back.ensures c.apply_in-2.ensures
