-- `line_mdap::mdap` meets its contract: by whether the operand and the point are there, in any world that holds the lists lent. Assumes nothing.
use mathlib.Core.List.{List}
use mathlib.Core.Path.{ap, ◌∙◌}
use native.Mathlib.Omega.{arith}
use lib.IntN.{ℤ}
use Rattle.int.proofs.Words.{back32}
use Rattle.line_steps.specs.Steps.{into, with_points}
use Rattle.moves.specs.Apply.{apply_in, both_moved}
use Rattle.line.specs.Places.{fetch_in}
use Rattle.line.specs.World.{World, world}
use Rattle.line_mdap.proofs.Cases.{mdap_missing, mdap_moved, mdap_outside}
use Rattle.line_mdap.proofs.mdap.Goals as goal
use Rattle.line_mdap.proofs.mdap.Goals.{Start}

-- ---- places of the walk, found by their types
abbrev entry : Start → List ℤ → List ℤ → World
entry s tox toy = world s.args.s s.args.gx.now s.args.gy.now s.args.gflags.now tox toy s.args.tx.now s.args.ty.now s.args.tflags.now

pub returns-then-operands-lt1 : goal.returns-then-operands-lt1
returns-then-operands-lt1 c = λ f tox toy. mdap_missing f c.args.opcode c.args.operands.now (entry (goal.at.returns-then-operands-lt1 c).Start tox toy) c.if-operands-lt1.true (ap (into (entry (goal.at.returns-then-operands-lt1 c).Start tox toy)) c.refused.ensures)

pub apply_in-call-requires : goal.apply_in-call-requires
apply_in-call-requires c = c.requires

pub returns-in-Err : goal.returns-in-Err
returns-in-Err c = λ f tox toy. mdap_outside f c.args.opcode c.args.operands.now (entry (goal.at.returns-in-Err c).Start tox toy) c.if-operands-lt1.false c.index_at-at.ensures (c.fetch_in-here.ensures ∙ ap (fetch_in _ _ _ _ _) c.zp0-zp0.ensures) c.in-Err.is
    (c.outside_mdap.ensures (entry (goal.at.returns-in-Err c).Start tox toy))

pub returns-in-Ok : goal.returns-in-Ok
returns-in-Ok c = λ f tox toy. mdap_moved f c.args.opcode c.args.operands.now (entry (goal.at.returns-in-Ok c).Start tox toy) c.if-operands-lt1.false c.index_at-at.ensures (c.fetch_in-here.ensures ∙ ap (fetch_in _ _ _ _ _) c.zp0-zp0.ensures) c.in-Ok.is
    c.is_odd.ensures
    c.mdap_distance-distance.ensures (back32 c.mdap_distance-distance.result.word (omega (arith, c.struct_told-1.given)))
    c.move_of-m.ensures
    (c.apply_in-call.ensures ∙ ap (apply_in _ _ _ _ _ _ _ _) c.zp0-zp0.ensures)
    (c.settle.ensures (with_points (entry (goal.at.returns-in-Ok c).Start tox toy) (both_moved c.apply_in-call.result _ _ _ _ _ _)))
