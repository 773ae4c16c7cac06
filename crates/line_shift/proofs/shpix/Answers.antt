-- `line_shift::shpix` meets its contract: by backward compatibility and by whether there is an operand; else the loop is what `shift_in` ensures, over the operands behind
-- the amount. Assumes nothing.
use mathlib.Core.List.{List}
use mathlib.Core.Path.{ap, ◌∙◌}
use native.Mathlib.Omega.{arith}
use lib.IntN.{ℤ}
use Rattle.graphics.specs.declared.GraphicsState.{GraphicsState}
use Rattle.int.proofs.Words.{back32}
use Rattle.line_steps.proofs.Bridge.{zones_of}
use Rattle.line_steps.specs.Loop.{in_zone}
use Rattle.line_steps.specs.Steps.{into}
use Rattle.line.specs.World.{World, world}
use Rattle.line_shift.proofs.Cases.{amount_first, compatible, no_amount}
use Rattle.line_shift.proofs.One.{counted}
use Rattle.line_shift.proofs.shpix.Goals as goal
use Rattle.line_shift.proofs.shpix.Goals.{Start}

-- the world that the line starts in, with any original twilight points
abbrev entry : Start → List ℤ → List ℤ → World
entry s tox toy = let a = s.args in
    world a.s a.gx.now a.gy.now a.gflags.now tox toy a.tx.now a.ty.now a.tflags.now

pub returns-then-facts : goal.returns-then-facts
returns-then-facts c = λ f opcode tox toy. compatible f opcode c.args.operands.now (entry (goal.at.returns-then-facts c).Start tox toy) c.if-facts.true (ap (into (entry (goal.at.returns-then-facts c).Start tox toy)) c.refused.ensures)

pub returns-then-operands-eq0 : goal.returns-then-operands-eq0
returns-then-operands-eq0 c = λ f opcode tox toy. no_amount f opcode c.args.operands.now (entry (goal.at.returns-then-operands-eq0 c).Start tox toy) c.if-facts.false c.if-operands-eq0.true (ap (into (entry (goal.at.returns-then-operands-eq0 c).Start tox toy)) c.refused-then-operands-eq0.ensures)

-- one point: the counter says so
pub returns-then-count-eq1 : goal.returns-then-count-eq1
returns-then-count-eq1 c = let s = c in
    λ f opcode tox toy. amount_first f opcode s.args.operands.now (entry (goal.at.returns-then-count-eq1 c).Start tox toy) c.if-facts.false (omega (arith, c.if-operands-eq0.false))
    c.pixel_move-m.ensures
    (back32 _ c.pixel_move-arg-1.given)
    (ap (λ (s : GraphicsState). record { call = c.shift_one_in-call.result; state = s }) (c.by_words.ensures ∙ c.reset_loop_counter.ensures))
    (c.shift_one_in-call.ensures ∙ counted c.pixel_move-m.result _ (zones_of (entry (goal.at.returns-then-count-eq1 c).Start tox toy)) c.if-count-eq1.true c.zp2-zp2.ensures)

pub returns : goal.returns
returns c = let s = c in
    λ f opcode tox toy. amount_first f opcode s.args.operands.now (entry (goal.at.returns c).Start tox toy) c.if-facts.false (omega (arith, c.if-operands-eq0.false))
    c.pixel_move-m.ensures
    (back32 _ c.pixel_move-arg-1.given)
    (ap (λ (s : GraphicsState). record { call = c.shift_in-call.result; state = s }) (c.by_words-2.ensures ∙ c.reset_loop_counter-2.ensures))
    (c.shift_in-call.ensures ∙ ap (in_zone _ _) c.zp2-zp2.ensures)
