-- `line_measure::md` meets its contract: by whether the operands are there, and what is measured, in any world that holds the lists lent. Assumes nothing.
use Prim.Native.Nat.{ℕ}
use mathlib.Core.List.{List}
use mathlib.Core.Path.{ap, ◌∙◌}
use native.Mathlib.Omega.{arith}
use lib.IntN.{ℤ}
use Rattle.int.proofs.Words.{back32}
use Rattle.line.specs.Line.{done_with}
use Rattle.rules.specs.declared.Rules.{Rules}
use Rattle.line.specs.World.{Fixed, World, fixed, world}
use Rattle.line_steps.specs.Steps.{into}
use Rattle.line_measure.proofs.Cases.{md_found, md_glyph, md_missing}
use Rattle.line_measure.proofs.md.Goals as goal
use Rattle.line_measure.proofs.md.Goals.{Start}

-- ---- places of the walk, found by their types
abbrev entry : Start → List ℕ → List ℕ → World
entry s gflags tflags = let a = s.args in
    world a.s a.gx.now a.gy.now gflags a.tox.now a.toy.now a.tx.now a.ty.now tflags

abbrev held : Start → Rules → List ℤ → List ℕ → Fixed
held s rules controls contours = let a = s.args in fixed rules controls a.gux.now a.guy.now a.gox.now a.goy.now contours

pub returns-then-operands-lt2 : goal.returns-then-operands-lt2
returns-then-operands-lt2 c = λ rules controls contours gflags tflags. md_missing (held (goal.at.returns-then-operands-lt2 c).Start rules controls contours) c.args.opcode c.args.operands.now (entry (goal.at.returns-then-operands-lt2 c).Start gflags tflags) c.if-operands-lt2.true
    (ap (into (entry (goal.at.returns-then-operands-lt2 c).Start gflags tflags)) c.refused.ensures)

pub look_up-first-requires : goal.look_up-first-requires
look_up-first-requires c = search

pub look_up-second-requires : goal.look_up-second-requires
look_up-second-requires c = search

pub returns-then-fitted-is_twilight : goal.returns-then-fitted-is_twilight
returns-then-fitted-is_twilight c = λ rules controls contours gflags tflags. md_found (held (goal.at.returns-then-fitted-is_twilight c).Start rules controls contours) c.args.opcode c.args.operands.now (entry (goal.at.returns-then-fitted-is_twilight c).Start gflags tflags) c.if-operands-lt2.false
    c.index_at-b.ensures
    c.index_at-a.ensures
    c.is_odd-fitted.ensures
    c.zp0-p.ensures
    c.zp1-q.ensures
    c.is_twilight.ensures
    c.is_twilight-2.ensures
    c.if-fitted-is_twilight.true
    c.look_up-first.ensures
    c.look_up-second.ensures
    c.vector_for.ensures
    c.apart.ensures
    (c.settle_measured.ensures (entry (goal.at.returns-then-fitted-is_twilight c).Start gflags tflags))

pub returns-else-fitted-is_twilight : goal.returns-else-fitted-is_twilight
returns-else-fitted-is_twilight c = λ rules controls contours gflags tflags. md_glyph (held (goal.at.returns-else-fitted-is_twilight c).Start rules controls contours) c.args.opcode c.args.operands.now (entry (goal.at.returns-else-fitted-is_twilight c).Start gflags tflags) c.if-operands-lt2.false
    c.index_at-b.ensures
    c.index_at-a.ensures
    c.is_odd-fitted.ensures
    c.zp0-p.ensures
    c.zp1-q.ensures
    c.is_twilight.ensures
    c.is_twilight-2.ensures
    c.if-fitted-is_twilight.false
    (back32 c.args.s.measures.scale (omega (arith, c.struct_told-1.given)))
    (back32 c.glyph_apart-d.result c.glyph_apart-d.type_inv ∙ c.glyph_apart-d.ensures)
    (ap (into (entry (goal.at.returns-else-fitted-is_twilight c).Start gflags tflags)) (c.done.ensures ∙ ap done_with c.with_push.ensures))
