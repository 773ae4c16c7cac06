-- `line_vectors::vector_by` meets its contract: by the opcode and whether both operands are there. Assumes nothing.
use mathlib.Core.Path.{ap, ◌∙◌}
use Rattle.int.proofs.Words.{back32}
use Rattle.line_vectors.proofs.Cases.{follows, sets_freedom, sets_projection, too_few}
use Rattle.line_vectors.specs.Vectors.{followed, short}
use Rattle.line_vectors.proofs.vector_by.Goals as goal

pub returns-then-opcode-eq14 : goal.returns-then-opcode-eq14
unfolding followed
returns-then-opcode-eq14 c = let a = c.args in
    follows a.s a.opcode a.operands.now c.if-opcode-eq14.true c.with_freedom_vector.ensures c.done.ensures

pub returns-then-operands-lt2 : goal.returns-then-operands-lt2
returns-then-operands-lt2 c = let a = c.args in
    too_few a.s a.opcode c.if-opcode-eq14.false a.operands.now c.if-operands-lt2.true c.refused.ensures

pub returns-then-opcode-eq10 : goal.returns-then-opcode-eq10
returns-then-opcode-eq10 c = let a = c.args in
    sets_projection a.s a.opcode c.if-opcode-eq14.false a.operands.now c.if-operands-lt2.false (back32 c.short_of-x.result c.short_of-x.type_inv) (c.short_of-x.ensures ∙ ap short (back32 _ c.short_of-arg-2-1.given)) (back32 c.short_of-y.result c.short_of-y.type_inv) (c.short_of-y.ensures ∙ ap short (back32 _ c.short_of-arg-1.given)) c.if-opcode-eq10.true c.from_stack.ensures c.with_projection_vectors.ensures c.done-then-opcode-eq10.ensures

pub returns-else-opcode-eq10 : goal.returns-else-opcode-eq10
returns-else-opcode-eq10 c = let a = c.args in
    sets_freedom a.s a.opcode c.if-opcode-eq14.false a.operands.now c.if-operands-lt2.false (back32 c.short_of-x.result c.short_of-x.type_inv) (c.short_of-x.ensures ∙ ap short (back32 _ c.short_of-arg-2-1.given)) (back32 c.short_of-y.result c.short_of-y.type_inv) (c.short_of-y.ensures ∙ ap short (back32 _ c.short_of-arg-1.given)) c.if-opcode-eq10.false c.from_stack-else-opcode-eq10.ensures c.with_freedom_vector-else-opcode-eq10.ensures c.done-else-opcode-eq10.ensures
