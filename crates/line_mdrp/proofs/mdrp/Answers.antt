-- `line_mdrp::mdrp` meets its contract: by whether the operand is there, and then both points. Assumes nothing.
use mathlib.Core.Path.{ap, ◌∙◌}
use mathlib.Core.List.{List}
use Prim.Native.Nat.{ℕ}
use native.Mathlib.Omega.{arith}
use lib.IntN.{ℤ}
use Rattle.int.proofs.Words.{back32}
use Rattle.line_steps.specs.Steps.{into, with_points}
use Rattle.moves.specs.Apply.{both_moved}
use Rattle.rules.specs.declared.Rules.{Rules}
use Rattle.line.specs.World.{Fixed, World, fixed, world}
use Rattle.line_mdrp.proofs.Cases.{mdrp_missing, mdrp_moved, mdrp_outside}
use Rattle.line_mdrp.proofs.mdrp.Goals as goal
use Rattle.line_mdrp.proofs.mdrp.Goals.{Start}

-- ---- places of the walk, found by their types
abbrev entry : Start → World
entry s = let a = s.args in
    world a.s a.gx.now a.gy.now a.gflags.now a.tox.now a.toy.now a.tx.now a.ty.now a.tflags.now

abbrev held : Start → Rules → List ℤ → List ℕ → Fixed
held s rules controls contours = let a = s.args in fixed rules controls a.gux.now a.guy.now a.gox.now a.goy.now contours

pub returns-then-operands-lt1 : goal.returns-then-operands-lt1
returns-then-operands-lt1 c = λ rules controls contours. mdrp_missing (held (goal.at.returns-then-operands-lt1 c).Start rules controls contours) c.args.opcode c.args.operands.now (entry (goal.at.returns-then-operands-lt1 c).Start) c.if-operands-lt1.true (ap (into (entry (goal.at.returns-then-operands-lt1 c).Start)) c.refused.ensures)

pub returns-in-Err : goal.returns-in-Err
returns-in-Err c = λ rules controls contours. mdrp_outside (held (goal.at.returns-in-Err c).Start rules controls contours) c.args.opcode c.args.operands.now (entry (goal.at.returns-in-Err c).Start) c.if-operands-lt1.false
    c.index_at-at.ensures
    c.zp0-zp0.ensures
    c.zp1-zp1.ensures
    c.sets_rp0-sets.ensures
    c.size_of-firsts.ensures
    c.size_of-seconds.ensures
    c.both_inside-there.ensures
    c.in-Err.is
    (c.relate_or.ensures (entry (goal.at.returns-in-Err c).Start))

pub returns-in-Ok : goal.returns-in-Ok
returns-in-Ok c = λ rules controls contours. mdrp_moved (held (goal.at.returns-in-Ok c).Start rules controls contours) c.args.opcode c.args.operands.now (entry (goal.at.returns-in-Ok c).Start) c.if-operands-lt1.false
    c.index_at-at.ensures
    c.zp0-zp0.ensures
    c.zp1-zp1.ensures
    c.sets_rp0-sets.ensures
    c.size_of-firsts.ensures
    c.size_of-seconds.ensures
    c.both_inside-there.ensures
    c.in-Ok.is
    (back32 c.args.s.measures.scale (omega (arith, c.struct_told-1.given)))
    (back32 c.outline_apart-outline.result c.outline_apart-outline.type_inv ∙ c.outline_apart-outline.ensures)
    c.mdrp_distance-distance.ensures
    c.place_alike_in-place.ensures
    c.place_alike_in-reference.ensures
    (back32 c.project.result c.project.type_inv ∙ c.project.ensures)
    c.step_from-by.ensures
    (back32 c.step_from-by.result.word (omega (arith, c.struct_told-in-Ok-1.given)))
    c.move_of-m.ensures
    c.apply_in-call.ensures
    (c.settle_relative.ensures (with_points (entry (goal.at.returns-in-Ok c).Start) (both_moved c.apply_in-call.result _ _ _ _ _ _)))
