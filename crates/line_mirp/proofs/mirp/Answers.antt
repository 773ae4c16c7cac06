-- `line_mirp::mirp` meets its contract: by whether both operands are there, and then the control value and both points. Assumes nothing.
use mathlib.Core.Path.{ap, sym, ◌∙◌}
use mathlib.Core.List.{List}
use Prim.Native.Nat.{ℕ}
use native.Mathlib.Omega.{arith}
use lib.IntN.{ℤ}
use Rattle.int.proofs.Words.{back32}
use Rattle.line_steps.specs.Steps.{into, with_points}
use Rattle.moves.specs.Apply.{both_moved}
use Rattle.rules.specs.declared.Rules.{Rules}
use Rattle.line.specs.World.{Fixed, World, fixed, world}
use Rattle.line_mirp.proofs.Cases.{mirp_missing, mirp_moved, mirp_outside}
use Rattle.line_mirp.proofs.mirp.Goals as goal
use Rattle.line_mirp.proofs.mirp.Goals.{After-make_in, Start}

-- ---- places of the walk, found by their types
abbrev entry : Start → World
entry s = let a = s.args in
    world a.s a.gx.now a.gy.now a.gflags.now a.tox.now a.toy.now a.tx.now a.ty.now a.tflags.now

abbrev held : Start → Rules → List ℤ → List ℤ → List ℕ → Fixed
held s rules gux guy contours = let a = s.args in fixed rules a.controls.now gux guy a.gox.now a.goy.now contours

-- the world with the twilight point made
abbrev made_world : After-make_in → World
made_world m = let a = m.args in
    world a.s a.gx.now a.gy.now a.gflags.now m.make_in.new.tox m.make_in.new.toy m.make_in.new.tx m.make_in.new.ty a.tflags.now

pub returns-then-operands-lt2 : goal.returns-then-operands-lt2
returns-then-operands-lt2 c = λ rules gux guy contours. mirp_missing (held (goal.at.returns-then-operands-lt2 c).Start rules gux guy contours) c.args.opcode c.args.operands.now (entry (goal.at.returns-then-operands-lt2 c).Start) c.if-operands-lt2.true (ap (into (entry (goal.at.returns-then-operands-lt2 c).Start)) c.refused.ensures)

pub currents_apart-own-requires : goal.currents_apart-own-requires
currents_apart-own-requires c = let p = c.requires in
    let tx = c.make_in.auto.tx in
    (p.0, c.make_in.auto.ty ∙ p.2 ∙ sym tx)

pub apply_in-call-requires : goal.apply_in-call-requires
apply_in-call-requires c = let p = c.requires in
    let tx = c.make_in.auto.tx in
    (p.0, p.1, c.make_in.auto.ty ∙ p.2 ∙ sym tx, p.3 ∙ sym tx)

pub returns-in-Err : goal.returns-in-Err
returns-in-Err c = λ rules gux guy contours. mirp_outside (held (goal.at.returns-in-Err c).Start rules gux guy contours) c.args.opcode c.args.operands.now (entry (goal.at.returns-in-Err c).Start) c.if-operands-lt2.false
    c.next_at-next.ensures
    c.index_at-at.ensures
    c.zp0-zp0.ensures
    c.zp1-zp1.ensures
    c.sets_rp0-sets.ensures
    c.mirp_found-found.ensures
    c.in-Err.is
    (c.relate_or.ensures (entry (goal.at.returns-in-Err c).Start))

pub returns-in-Ok : goal.returns-in-Ok
returns-in-Ok c = λ rules gux guy contours. mirp_moved (held (goal.at.returns-in-Ok c).Start rules gux guy contours) c.args.opcode c.args.operands.now (entry (goal.at.returns-in-Ok c).Start) c.if-operands-lt2.false
    c.next_at-next.ensures
    c.index_at-at.ensures
    c.zp0-zp0.ensures
    c.zp1-zp1.ensures
    c.sets_rp0-sets.ensures
    c.mirp_found-found.ensures
    (made_world (goal.at.returns-in-Ok c).After-make_in)
    c.in-Ok.is
    (back32 c.in-Ok.control (omega (arith, c.in-Ok.known_told-in-Ok-1-own.given)))
    (c.make_in.ensures c.args.s c.args.gx.now c.args.gy.now c.args.gflags.now c.args.tflags.now)
    (back32 c.currents_apart-own.result c.currents_apart-own.type_inv ∙ c.currents_apart-own.ensures)
    (back32 c.originals_apart-original.result c.originals_apart-original.type_inv ∙ c.originals_apart-original.ensures)
    c.same_zone-within.ensures
    c.mirp_distance-distance.ensures
    c.step_from-by.ensures
    (back32 c.step_from-by.result.word (omega (arith, c.struct_told-1.given)))
    c.move_of-m.ensures
    c.apply_in-call.ensures
    (c.settle_relative.ensures (with_points (made_world (goal.at.returns-in-Ok c).After-make_in) (both_moved c.apply_in-call.result _ _ _ _ _ _)))
