-- `direct_moves::try_move_point` meets its contract: by what the entry says, and then by what the move ensures. Assumes nothing.
use Rattle.std.specs.Prelude.{⊤, Result}
use mathlib.Core.Path.{ap, ◌∙◌}
use mir.Facts.{to_z-of_z}
use Rattle.answer.proofs.Passed.{passed_on}
use Rattle.direct_moves.proofs.Cases.{begun_fits, zones_lengths, point_begun}
use Rattle.graphics.specs.State.{usable_state}
use Rattle.answer.specs.declared.Refusal.{Refusal}
use Rattle.moves.specs.Apply.{both_moved, apply_in}
use Rattle.moves.specs.Move.{move_of}
use Rattle.moves.specs.declared.Move.{Move}
use Rattle.direct_moves.proofs.try_move_point.Goals as goal

pub apply_in-requires : goal.apply_in-requires
apply_in-requires c = let a = c.args in
    zones_lengths a.gx.now a.gy.now a.gflags.now a.tx.now a.ty.now a.tflags.now (begun_fits (usable_state a.s) c.zones_fit.ensures c.entry.ensures c.in_ok-entry.was)

pub returns-in_err-entry : goal.returns-in_err-entry
returns-in_err-entry c = let a = c.args in
    ap (λ (r : Result ⊤ Refusal). both_moved r a.gx.now a.gy.now a.gflags.now a.tx.now a.ty.now a.tflags.now) (passed_on _ c.from_residual.ensures.1)
    ∙ point_begun a.gx.now a.gy.now a.gflags.now a.tx.now a.ty.now a.tflags.now a.s a.at c.zones_fit.ensures c.entry.ensures c.in_err-entry.was a.zone a.distance

pub returns : goal.returns
returns c =
    let a = c.args in
    c.apply_in.ensures
    ∙ ap (λ (c : Move). apply_in c a.at a.gx.now a.gy.now a.gflags.now a.tx.now a.ty.now a.tflags.now a.zone) (c.move_of.ensures ∙ ap (move_of a.s.vectors a.s.facts) (to_z-of_z c.ranges.distance))
    ∙ point_begun a.gx.now a.gy.now a.gflags.now a.tx.now a.ty.now a.tflags.now a.s a.at c.zones_fit.ensures c.entry.ensures c.in_ok-entry.was a.zone a.distance
