-- `direct_moves::try_point_displacement` meets its contract: by what the entry says, and then by what the leaf ensures. Assumes nothing.
use mathlib.Core.Path.{refl, ap₂, ◌∙◌}
use mathlib.Core.Bool.{Bool, ◌&&◌}
use Rattle.answer.proofs.Passed.{passed_on}
use Rattle.direct_moves.proofs.Cases.{begun_fits, both_outlines_lengths, displacement_begun}
use Rattle.graphics.specs.State.{usable_state}
use Rattle.direct_moves.proofs.try_point_displacement.Goals as goal

pub displaced_in-requires : goal.displaced_in-requires
displaced_in-requires c = let a = c.args in
    both_outlines_lengths a.gox.now a.goy.now a.gx.now a.gy.now a.tox.now a.toy.now a.tx.now a.ty.now (begun_fits (usable_state a.s) (ap₂ (λ (x y : Bool). x && y) c.outline_fits.ensures c.outline_fits-2.ensures) c.entry.ensures c.in_ok-entry.was)

pub returns-in_err-entry : goal.returns-in_err-entry
returns-in_err-entry c = let a = c.args in
    passed_on _ c.from_residual.ensures.1
    ∙ displacement_begun a.gox.now a.goy.now a.gx.now a.gy.now a.tox.now a.toy.now a.tx.now a.ty.now a.s a.opcode c.outline_fits.ensures c.outline_fits-2.ensures c.entry.ensures c.in_err-entry.was refl

pub returns : goal.returns
returns c = let a = c.args in
    c.displaced_in.ensures
    ∙ displacement_begun a.gox.now a.goy.now a.gx.now a.gy.now a.tox.now a.toy.now a.tx.now a.ty.now a.s a.opcode c.outline_fits.ensures c.outline_fits-2.ensures c.entry.ensures c.in_ok-entry.was c.reference_of.ensures
