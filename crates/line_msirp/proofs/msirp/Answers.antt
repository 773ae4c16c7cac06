-- `line_msirp::msirp` meets its contract: by whether both operands are there, and then both points. Assumes nothing.
use mathlib.Core.List.{List}
use mathlib.Core.Path.{ap, sym, ◌∙◌}
use Prim.Native.Nat.{ℕ}
use lib.IntN.{ℤ}
use Rattle.int.proofs.Words.{back32}
use Rattle.line_steps.specs.Steps.{into, with_points}
use Rattle.moves.specs.Apply.{both_moved}
use Rattle.line.specs.World.{Fixed, World, fixed, world}
use Rattle.line_msirp.proofs.Cases.{msirp_missing, msirp_moved, msirp_passed}
use Rattle.line_msirp.proofs.msirp.Goals as goal
use Rattle.line_msirp.proofs.msirp.Goals.{After-make_in, Start}

-- ---- places of the walk, found by their types
abbrev held : Start → List ℤ → List ℤ → List ℤ → List ℕ → Fixed
held s controls gux guy contours = let a = s.args in fixed a.rules controls gux guy a.gox.now a.goy.now contours

abbrev entry : Start → World
entry s = let a = s.args in
    world a.s a.gx.now a.gy.now a.gflags.now a.tox.now a.toy.now a.tx.now a.ty.now a.tflags.now

-- the world with the twilight point made
abbrev made_world : After-make_in → World
made_world m = let a = m.args in
    world a.s a.gx.now a.gy.now a.gflags.now m.make_in.new.tox m.make_in.new.toy m.make_in.new.tx m.make_in.new.ty a.tflags.now

pub returns-then-operands-lt2 : goal.returns-then-operands-lt2
returns-then-operands-lt2 c = λ controls gux guy contours. msirp_missing (held (goal.at.returns-then-operands-lt2 c).Start controls gux guy contours) c.args.opcode c.args.operands.now (entry (goal.at.returns-then-operands-lt2 c).Start) c.if-operands-lt2.true (ap (into (entry (goal.at.returns-then-operands-lt2 c).Start)) c.refused.ensures)

pub place_alike_in-place-requires : goal.place_alike_in-place-requires
place_alike_in-place-requires c = let p = c.requires in
    let tx = c.make_in.auto.tx in
    (p.0, c.make_in.auto.ty ∙ p.2 ∙ sym tx)

pub place_alike_in-reference-requires : goal.place_alike_in-reference-requires
place_alike_in-reference-requires c = let p = c.requires in
    let tx = c.make_in.auto.tx in
    (p.0, c.make_in.auto.ty ∙ p.2 ∙ sym tx)

pub apply_in-call-requires : goal.apply_in-call-requires
apply_in-call-requires c = let p = c.requires in
    let tx = c.make_in.auto.tx in
    (p.0, p.1, c.make_in.auto.ty ∙ p.2 ∙ sym tx, p.3 ∙ sym tx)

pub returns-in-Err : goal.returns-in-Err
returns-in-Err c = λ controls gux guy contours. msirp_passed (held (goal.at.returns-in-Err c).Start controls gux guy contours) c.args.opcode c.args.operands.now (entry (goal.at.returns-in-Err c).Start) c.if-operands-lt2.false
    (back32 c.coordinate_or_0-distance.result c.coordinate_or_0-distance.type_inv ∙ c.coordinate_or_0-distance.ensures)
    c.index_at-at.ensures
    c.reach-there.ensures
    c.in-Err.is
    (c.pass_over.ensures (entry (goal.at.returns-in-Err c).Start))

pub returns-in-Ok : goal.returns-in-Ok
returns-in-Ok c = λ controls gux guy contours. msirp_moved (held (goal.at.returns-in-Ok c).Start controls gux guy contours) c.args.opcode c.args.operands.now (entry (goal.at.returns-in-Ok c).Start) c.if-operands-lt2.false
    (back32 c.coordinate_or_0-distance.result c.coordinate_or_0-distance.type_inv ∙ c.coordinate_or_0-distance.ensures)
    c.index_at-at.ensures
    c.reach-there.ensures
    (made_world (goal.at.returns-in-Ok c).After-make_in)
    c.in-Ok.is
    (c.make_in.ensures c.args.s c.args.gx.now c.args.gy.now c.args.gflags.now c.args.tflags.now)
    c.place_alike_in-place.ensures
    c.place_alike_in-reference.ensures
    (back32 c.distance_left-by.result c.distance_left-by.type_inv ∙ c.distance_left-by.ensures)
    c.move_of-m.ensures
    c.apply_in-call.ensures
    c.is_odd.ensures
    (c.settle_relative.ensures (with_points (made_world (goal.at.returns-in-Ok c).After-make_in) (both_moved c.apply_in-call.result _ _ _ _ _ _)))
