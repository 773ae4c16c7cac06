-- `line_set::set_state` meets its contract: by the opcode and whether there is an operand. Assumes nothing.
use mathlib.Core.Bool.{true, false}
use mathlib.Core.Path.{◌≡◌, sym, ap, ◌∙◌}
use borrow.Author.Tests.{lt-ltb, le-ltb, not-true, not-false}
use Rattle.graphics.specs.State.{in_mode, with_round}
use Rattle.int.proofs.Words.{back32}
use Rattle.line.specs.Line.{done_with}
use Rattle.round.specs.declared.RoundMode.{RoundMode}
use Rattle.line_set.proofs.Cases.{no_operand, an_operand}
use Rattle.line_set.specs.Setters.{takes_operand, operand_by, set_by}
use Rattle.line_set.proofs.set_state.Goals as goal
use Rattle.line_set.proofs.set_state.Goals.{Else-not-takes_operand, Then-not-takes_operand}

-- by the test that led there
no_operand_taken : (c : Then-not-takes_operand) → takes_operand c.args.opcode ≡ false
no_operand_taken c = sym c.takes_operand.ensures ∙ not-true _ c.if-not-takes_operand.true-raw

operand_taken : (c : Else-not-takes_operand) → takes_operand c.args.opcode ≡ true
operand_taken c = sym c.takes_operand.ensures ∙ not-false _ c.if-not-takes_operand.false-raw

pub returns-then-opcode-lt6 : goal.returns-then-opcode-lt6
unfolding set_by
returns-then-opcode-lt6 c = rw (lt-ltb c.args.opcode 0x06 c.if-opcode-lt6.true) (c.done.ensures ∙ ap done_with c.set_vectors.ensures)

pub returns-then-not-takes_operand : goal.returns-then-not-takes_operand
unfolding set_by
returns-then-not-takes_operand c = rw (le-ltb c.args.opcode 0x06 c.if-opcode-lt6.false, no_operand_taken (goal.at.returns-then-not-takes_operand c).Then-not-takes_operand) (c.done-then-not-takes_operand.ensures ∙ ap done_with (c.with_round_mode.ensures ∙ ap (λ (m : RoundMode). with_round c.args.s (in_mode c.args.s.round m)) c.mode_by.ensures))

pub returns-then-operands-eq0 : goal.returns-then-operands-eq0
unfolding set_by
returns-then-operands-eq0 c = rw (le-ltb c.args.opcode 0x06 c.if-opcode-lt6.false, operand_taken (goal.at.returns-then-operands-eq0 c).Else-not-takes_operand) (c.refused.ensures ∙ sym (no_operand c.args.s (operand_by c.args.s c.args.opcode) c.args.operands.now c.if-operands-eq0.true))

pub returns : goal.returns
unfolding set_by
returns c = rw (le-ltb c.args.opcode 0x06 c.if-opcode-lt6.false, operand_taken (goal.at.returns c).Else-not-takes_operand) (c.set_by_operand.ensures ∙ ap (operand_by c.args.s c.args.opcode) (back32 _ c.set_by_operand-arg-1.given) ∙ sym (an_operand c.args.s (operand_by c.args.s c.args.opcode) c.args.operands.now c.if-operands-eq0.false))
