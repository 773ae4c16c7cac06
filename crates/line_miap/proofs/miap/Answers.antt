-- `line_miap::miap` meets its contract: by whether both operands, the control value and the point are there. Assumes nothing.
use mathlib.Core.Path.{ap, ◌∙◌}
use native.Mathlib.Omega.{arith}
use lib.IntN.{pos}
use lib.ListN.{get_or}
use Rattle.int.proofs.Words.{back32}
use Rattle.line_steps.specs.Steps.{into, made_in, with_points}
use Rattle.moves.specs.Apply.{apply_in, both_moved}
use Rattle.line.specs.Places.{fetch_in}
use Rattle.line.specs.World.{World, fixed, world}
use Rattle.line_miap.proofs.Cases.{miap_missing, miap_moved, miap_no_control, miap_outside}
use borrow.Author.Rules.{rules}
use Rattle.line_miap.proofs.miap.Goals as goal
use Rattle.line_miap.proofs.miap.Goals.{After-fetch_in-here, Start}

-- ---- places of the walk, found by their types
abbrev entry : Start → World
entry s = let a = s.args in world a.s a.gx.now a.gy.now a.gflags.now a.tox.now a.toy.now a.tx.now a.ty.now a.tflags.now

-- the world with the twilight point made
abbrev made : After-fetch_in-here → World
made k = let a = k.args in
    world a.s a.gx.now a.gy.now a.gflags.now k.make_in.new.tox k.make_in.new.toy k.make_in.new.tx k.make_in.new.ty a.tflags.now

pub returns-then-operands-lt2 : goal.returns-then-operands-lt2
returns-then-operands-lt2 c = λ rules gux guy gox goy contours. miap_missing (fixed rules c.args.controls.now gux guy gox goy contours) c.args.opcode c.args.operands.now (entry (goal.at.returns-then-operands-lt2 c).Start) c.if-operands-lt2.true (ap (into (entry (goal.at.returns-then-operands-lt2 c).Start)) c.refused.ensures)

pub returns-then-controls-i : goal.returns-then-controls-i
returns-then-controls-i c = λ rules gux guy gox goy contours. miap_no_control (fixed rules c.args.controls.now gux guy gox goy contours) c.args.opcode c.args.operands.now (entry (goal.at.returns-then-controls-i c).Start) c.if-operands-lt2.false c.index_at-entry.ensures c.if-controls-i.true (ap (into (entry (goal.at.returns-then-controls-i c).Start)) c.refused-then-controls-i.ensures)

pub returns-in-Err : goal.returns-in-Err
returns-in-Err c = λ rules gux guy gox goy contours. miap_outside (fixed rules c.args.controls.now gux guy gox goy contours) c.args.opcode c.args.operands.now (entry (goal.at.returns-in-Err c).Start) c.if-operands-lt2.false c.index_at-entry.ensures c.index_at-at.ensures c.if-controls-i.false
    (back32 (get_or c.args.controls.now c.index_at-entry.result (pos 0)) c.control-1.given) (made (goal.at.returns-in-Err c).After-fetch_in-here) (c.make_in.ensures c.args.s c.args.gx.now c.args.gy.now c.args.gflags.now c.args.tflags.now ∙ ap (made_in _ _ _) c.zp0-zp0.ensures)
    (c.fetch_in-here.ensures ∙ ap (fetch_in _ _ _ _ _) c.zp0-zp0.ensures) c.in-Err.is
    (ap (into (made (goal.at.returns-in-Err c).After-fetch_in-here)) c.refused-in-Err.ensures)

pub returns-in-Ok : goal.returns-in-Ok
returns-in-Ok c = λ rules gux guy gox goy contours. miap_moved (fixed rules c.args.controls.now gux guy gox goy contours) c.args.opcode c.args.operands.now (entry (goal.at.returns-in-Ok c).Start) c.if-operands-lt2.false c.index_at-entry.ensures c.index_at-at.ensures c.if-controls-i.false
    (back32 (get_or c.args.controls.now c.index_at-entry.result (pos 0)) c.control-1.given) (made (goal.at.returns-in-Ok c).After-fetch_in-here) (c.make_in.ensures c.args.s c.args.gx.now c.args.gy.now c.args.gflags.now c.args.tflags.now ∙ ap (made_in _ _ _) c.zp0-zp0.ensures)
    (c.fetch_in-here.ensures ∙ ap (fetch_in _ _ _ _ _) c.zp0-zp0.ensures) c.in-Ok.is
    (back32 c.from_origin-own.result c.from_origin-own.type_inv ∙ c.from_origin-own.ensures)
    c.is_odd.ensures
    (back32 c.args.s.measures.cut_in (omega (arith, c.struct_told-1.given)))
    c.miap_distance-distance.ensures (back32 c.miap_distance-distance.result.word (omega (arith, c.struct_told-in-Ok-1.given)))
    c.move_of-m.ensures
    (c.apply_in-call.ensures ∙ ap (apply_in _ _ _ _ _ _ _ _) c.zp0-zp0.ensures)
    (c.settle.ensures (with_points (made (goal.at.returns-in-Ok c).After-fetch_in-here) (both_moved c.apply_in-call.result _ _ _ _ _ _)))
