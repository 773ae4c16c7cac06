-- `direct_moves::try_move_original` meets its contract: by what the entry says, and then by what the move ensures. Assumes nothing.
use Rattle.std.specs.Prelude.{⊤, Result}
use mathlib.Core.Path.{ap, ◌∙◌}
use mir.Facts.{to_z-of_z}
use Rattle.answer.proofs.Passed.{passed_on}
use Rattle.direct_moves.proofs.Cases.{begun_fits, pairs_lengths, original_begun}
use Rattle.graphics.specs.State.{usable_state}
use Rattle.answer.specs.declared.Refusal.{Refusal}
use Rattle.moves.specs.Apply.{both_shifted, shift_in}
use Rattle.moves.specs.Move.{original_move_of}
use Rattle.moves.specs.declared.Move.{Move}
use Rattle.direct_moves.proofs.try_move_original.Goals as goal

pub apply_coords_in-requires : goal.apply_coords_in-requires
apply_coords_in-requires c =
    let a = c.args in
    pairs_lengths a.gox.now a.goy.now a.tox.now a.toy.now (begun_fits (usable_state a.s) c.pairs_fit.ensures c.entry.ensures c.in_ok-entry.was)

pub returns-in_err-entry : goal.returns-in_err-entry
returns-in_err-entry c = let a = c.args in
    ap (λ (r : Result ⊤ Refusal). both_shifted r a.gox.now a.goy.now a.tox.now a.toy.now) (passed_on _ c.from_residual.ensures.1)
    ∙ original_begun a.gox.now a.goy.now a.tox.now a.toy.now a.s a.zone a.at a.distance c.pairs_fit.ensures c.entry.ensures c.in_err-entry.was

pub returns : goal.returns
returns c =
    let a = c.args in
    c.apply_coords_in.ensures
    ∙ ap (λ (c : Move). shift_in c a.at a.gox.now a.goy.now a.tox.now a.toy.now a.zone) (c.original_move_of.ensures ∙ ap (original_move_of a.s.vectors) (to_z-of_z c.ranges.distance))
    ∙ original_begun a.gox.now a.goy.now a.tox.now a.toy.now a.s a.zone a.at a.distance c.pairs_fit.ensures c.entry.ensures c.in_ok-entry.was
