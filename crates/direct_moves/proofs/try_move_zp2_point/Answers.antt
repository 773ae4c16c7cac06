-- `direct_moves::try_move_zp2_point` meets its contract: by what the entry says, then by whether the move is idle, and then by what the move
-- ensures. Assumes nothing.
use Rattle.std.specs.Prelude.{⊤, Result}
use mathlib.Core.Path.{refl, sym, ap, ap₂, ◌∙◌}
use lib.IntN.{ℤ}
use mir.Facts.{to_z-of_z}
use Rattle.answer.proofs.Passed.{passed_on}
use Rattle.direct_moves.proofs.Cases.{begun_fits, zones_lengths, zp2_begun, zp2_idle, zp2_busy}
use Rattle.graphics.specs.State.{usable_state}
use Rattle.answer.specs.declared.Refusal.{Refusal}
use Rattle.moves.specs.Apply.{both_moved}
use Rattle.moves.specs.Move.{zp2_move_of}
use Rattle.direct_moves.proofs.try_move_zp2_point.Goals as goal

pub returns-then-is_idle : goal.returns-then-is_idle
returns-then-is_idle c =
    let a = c.args in
    zp2_idle a.gx.now a.gy.now a.gflags.now a.tx.now a.ty.now a.tflags.now a.s.pointers.zp2 c.zp2_move_of-m.result a.at (sym c.is_idle.ensures ∙ c.if-is_idle.true)
    ∙ zp2_begun a.gx.now a.gy.now a.gflags.now a.tx.now a.ty.now a.tflags.now a.s a.at c.zones_fit.ensures c.entry.ensures c.in_ok-entry.was a.dx a.dy a.touches (c.zp2_move_of-m.ensures ∙ ap₂ (λ (dx dy : ℤ). zp2_move_of a.s.vectors a.s.facts dx dy a.touches) (to_z-of_z c.ranges.dx) (to_z-of_z c.ranges.dy))

pub apply_in-requires : goal.apply_in-requires
apply_in-requires c = let a = c.args in
    zones_lengths a.gx.now a.gy.now a.gflags.now a.tx.now a.ty.now a.tflags.now (begun_fits (usable_state a.s) c.zones_fit.ensures c.entry.ensures c.in_ok-entry.was)

pub returns-in_err-entry : goal.returns-in_err-entry
returns-in_err-entry c =
    let a = c.args in
    ap (λ (r : Result ⊤ Refusal). both_moved r a.gx.now a.gy.now a.gflags.now a.tx.now a.ty.now a.tflags.now) (passed_on _ c.from_residual.ensures.1)
    ∙ zp2_begun a.gx.now a.gy.now a.gflags.now a.tx.now a.ty.now a.tflags.now a.s a.at c.zones_fit.ensures c.entry.ensures c.in_err-entry.was a.dx a.dy a.touches refl

pub returns : goal.returns
returns c =
    let a = c.args in
    c.apply_in.ensures
    ∙ zp2_busy a.gx.now a.gy.now a.gflags.now a.tx.now a.ty.now a.tflags.now a.s.pointers.zp2 c.zp2_move_of-m.result a.at (sym c.is_idle.ensures ∙ c.if-is_idle.false)
    ∙ zp2_begun a.gx.now a.gy.now a.gflags.now a.tx.now a.ty.now a.tflags.now a.s a.at c.zones_fit.ensures c.entry.ensures c.in_ok-entry.was a.dx a.dy a.touches (c.zp2_move_of-m.ensures ∙ ap₂ (λ (dx dy : ℤ). zp2_move_of a.s.vectors a.s.facts dx dy a.touches) (to_z-of_z c.ranges.dx) (to_z-of_z c.ranges.dy))
