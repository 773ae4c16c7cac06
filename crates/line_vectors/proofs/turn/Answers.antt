-- `line_vectors::turn` meets its contract: by whether points are asked for, and whether the original ones, in any world that holds the lists lent. Assumes nothing.
use Prim.Native.Nat.{ℕ}
use mathlib.Core.List.{List}
use mathlib.Core.Path.{◌∙◌, sym}
use borrow.Author.Rules.{rules}
use borrow.Author.Tests.{not-false, not-true}
use lib.IntN.{ℤ}
use Rattle.line.specs.World.{Fixed, World, fixed, world}
use Rattle.rules.specs.declared.Rules.{Rules}
use Rattle.line_vectors.proofs.Cases.{turned_both, turned_none, turned_one}
use Rattle.line_vectors.proofs.turn.Goals as goal
use Rattle.line_vectors.proofs.turn.Goals.{Start}

-- ---- places of the walk, found by their types
abbrev entry : Start → List ℕ → List ℕ → World
entry s gflags tflags = let a = s.args in
    world a.s a.gx.now a.gy.now gflags a.tox.now a.toy.now a.tx.now a.ty.now tflags

abbrev held : Start → Rules → List ℤ → List ℤ → List ℤ → List ℕ → Fixed
held s rules controls gux guy contours = let a = s.args in fixed rules controls gux guy a.gox.now a.goy.now contours

pub returns-then-not-is_along : goal.returns-then-not-is_along
returns-then-not-is_along c = λ rules controls gux guy contours gflags tflags. turned_none (held (goal.at.returns-then-not-is_along c).Start rules controls gux guy contours) c.args.opcode c.args.operands.now (entry (goal.at.returns-then-not-is_along c).Start gflags tflags) (sym c.is_along.ensures ∙ not-true _ c.if-not-is_along.true-raw) c.vector_by.ensures

pub returns-then-opcode-lt134 : goal.returns-then-opcode-lt134
returns-then-opcode-lt134 c = λ rules controls gux guy contours gflags tflags. turned_one (held (goal.at.returns-then-opcode-lt134 c).Start rules controls gux guy contours) c.args.opcode c.args.operands.now (entry (goal.at.returns-then-opcode-lt134 c).Start gflags tflags) (sym c.is_along.ensures ∙ not-false _ c.if-not-is_along.false-raw) c.is_odd-across.ensures c.zp1-zp1.ensures c.zp2-zp2.ensures c.line_found-now.ensures c.if-opcode-lt134.true c.settle_along.ensures

pub returns : goal.returns
returns c = λ rules controls gux guy contours gflags tflags. turned_both (held (goal.at.returns c).Start rules controls gux guy contours) c.args.opcode c.args.operands.now (entry (goal.at.returns c).Start gflags tflags) (sym c.is_along.ensures ∙ not-false _ c.if-not-is_along.false-raw) c.is_odd-across.ensures c.zp1-zp1.ensures c.zp2-zp2.ensures c.line_found-now.ensures c.if-opcode-lt134.false c.line_found-old.ensures c.settle_dual.ensures
