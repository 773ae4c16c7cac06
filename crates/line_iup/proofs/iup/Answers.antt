-- `line_iup::iup` meets its contract: by the marks, in any world that holds the lists lent. Assumes nothing.
use mathlib.Core.List.{List}
use mathlib.Core.Path.{ap}
use Prim.Native.Nat.{ℕ}
use lib.IntN.{ℤ}
use Rattle.line_steps.specs.Steps.{into}
use Rattle.rules.specs.declared.Rules.{Rules}
use Rattle.line.specs.World.{Fixed, World, fixed, world}
use Rattle.line_iup.proofs.Cases.{iup_past, iup_walked}
use Rattle.line_iup.proofs.iup.Goals as goal
use Rattle.line_iup.proofs.iup.Goals.{Start}

-- ---- the lists lent, in a world
abbrev lent : Start → Rules → List ℤ → Fixed
lent b rules controls = let a = b.args in fixed rules controls a.gux.now a.guy.now a.gox.now a.goy.now a.contours.now

abbrev entry : Start → List ℤ → List ℤ → List ℤ → List ℤ → List ℕ → World
entry b = let a = b.args in world a.s a.gx.now a.gy.now a.gflags.now

pub returns-then-past_both_iups : goal.returns-then-past_both_iups
returns-then-past_both_iups c = λ rules controls operands tox toy tx ty tflags. let w = entry (goal.at.returns-then-past_both_iups c).Start tox toy tx ty tflags in
    iup_past (lent (goal.at.returns-then-past_both_iups c).Start rules controls) c.args.opcode operands w c.past_both_iups.ensures c.if-past_both_iups.true (ap (into w) c.done.ensures)

pub walk_on-requires : goal.walk_on-requires
walk_on-requires c = c.requires

pub returns : goal.returns
returns c = λ rules controls operands tox toy tx ty tflags.
    iup_walked (lent (goal.at.returns c).Start rules controls) c.args.opcode operands (entry (goal.at.returns c).Start tox toy tx ty tflags) c.past_both_iups.ensures c.if-past_both_iups.false c.is_odd.ensures c.marked_for.ensures
    (c.walk_on.ensures c.marked_for.result rules controls tox toy tx ty tflags)
    c.done-2.ensures
