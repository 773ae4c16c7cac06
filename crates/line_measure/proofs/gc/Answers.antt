-- `line_measure::gc` meets its contract: by whether the operand is there, in any world that holds the lists lent. Assumes nothing.
use Prim.Native.Nat.{ℕ}
use mathlib.Core.List.{List}
use mathlib.Core.Path.{ap}
use lib.IntN.{ℤ}
use Rattle.rules.specs.declared.Rules.{Rules}
use Rattle.line.specs.World.{Fixed, World, fixed, world}
use Rattle.line_steps.specs.Steps.{into}
use Rattle.line_measure.proofs.Cases.{gc_found, gc_missing}
use Rattle.line_measure.proofs.gc.Goals as goal
use Rattle.line_measure.proofs.gc.Goals.{Start}

-- ---- places of the walk, found by their types
abbrev entry : Start → List ℕ → List ℕ → World
entry s gflags tflags = let a = s.args in
    world a.s a.gx.now a.gy.now gflags a.tox.now a.toy.now a.tx.now a.ty.now tflags

abbrev held : Start → Rules → List ℤ → List ℤ → List ℤ → List ℕ → Fixed
held s rules controls gux guy contours = let a = s.args in fixed rules controls gux guy a.gox.now a.goy.now contours

pub returns-then-operands-lt1 : goal.returns-then-operands-lt1
returns-then-operands-lt1 c = λ rules controls gux guy contours gflags tflags. gc_missing (held (goal.at.returns-then-operands-lt1 c).Start rules controls gux guy contours) c.args.opcode c.args.operands.now (entry (goal.at.returns-then-operands-lt1 c).Start gflags tflags) c.if-operands-lt1.true
    (ap (into (entry (goal.at.returns-then-operands-lt1 c).Start gflags tflags)) c.refused.ensures)

pub look_up-point-requires : goal.look_up-point-requires
look_up-point-requires c = search

pub returns : goal.returns
returns c = λ rules controls gux guy contours gflags tflags. gc_found (held (goal.at.returns c).Start rules controls gux guy contours) c.args.opcode c.args.operands.now (entry (goal.at.returns c).Start gflags tflags) c.if-operands-lt1.false
    c.index_at-at.ensures
    c.is_odd-original.ensures
    c.zp2-zp2.ensures
    c.look_up-point.ensures
    c.vector_for.ensures
    c.apart.ensures
    (c.settle_measured.ensures (entry (goal.at.returns c).Start gflags tflags))
