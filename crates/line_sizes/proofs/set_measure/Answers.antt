-- `line_sizes::set_measure` meets its contract: by the opcode and whether there is an operand. Assumes nothing.
use mathlib.Core.Path.{ap, sym, ◌∙◌}
use borrow.Author.Tests.{le-leb, lt-leb}
use lib.IntN.{ℤ}
use Rattle.int.proofs.Words.{back32}
use Rattle.line.specs.Line.{done_with}
use Rattle.line_set.proofs.Cases.{no_operand, an_operand}
use Rattle.line_sizes.specs.Sizes.{size_by, measure_by}
use Rattle.line_sizes.proofs.set_measure.Goals as goal

pub returns-then-opcode-ge77 : goal.returns-then-opcode-ge77
unfolding measure_by
returns-then-opcode-ge77 c = rw (le-leb 0x4D c.args.opcode c.if-opcode-ge77.true) (c.done.ensures ∙ ap done_with c.set_flipping.ensures)

pub returns-then-operands-eq0 : goal.returns-then-operands-eq0
unfolding measure_by
returns-then-operands-eq0 c = let a = c.args in
    rw (lt-leb 0x4D a.opcode c.if-opcode-ge77.false) (c.refused.ensures ∙ sym (no_operand a.s (λ (word : ℤ). done_with (size_by a.s a.opcode word)) a.operands.now c.if-operands-eq0.true))

pub returns : goal.returns
unfolding measure_by
returns c = let a = c.args in
    rw (lt-leb 0x4D a.opcode c.if-opcode-ge77.false) (c.done-2.ensures ∙ ap done_with (c.set_size.ensures ∙ ap (size_by a.s a.opcode) (back32 _ c.set_size-arg-1.given)) ∙ sym (an_operand a.s (λ (word : ℤ). done_with (size_by a.s a.opcode word)) a.operands.now c.if-operands-eq0.false))
