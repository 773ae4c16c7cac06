-- `opcodes::takes_operands` meets its contract: by the entry. Assumes nothing.
use native.Mathlib.Omega.{arith}
use borrow.Author.Tests.{eq-eqb, ne_eqb}
use Rattle.opcodes.proofs.takes_operands.Goals as goal

pub returns-then-need-eq-LOOPED : goal.returns-then-need-eq-LOOPED
returns-then-need-eq-LOOPED c = rw (eq-eqb c.args.need 254 c.if-need-eq-LOOPED.true)

pub returns-then-need-eq-AMOUNT_AND_LOOPED : goal.returns-then-need-eq-AMOUNT_AND_LOOPED
returns-then-need-eq-AMOUNT_AND_LOOPED c =
    rw (ne_eqb c.args.need 254 c.if-need-eq-LOOPED.false, eq-eqb c.args.need 253 c.if-need-eq-AMOUNT_AND_LOOPED.true) (omega arith)

pub returns-else-need-eq-AMOUNT_AND_LOOPED : goal.returns-else-need-eq-AMOUNT_AND_LOOPED
returns-else-need-eq-AMOUNT_AND_LOOPED c =
    rw (ne_eqb c.args.need 254 c.if-need-eq-LOOPED.false, ne_eqb c.args.need 253 c.if-need-eq-AMOUNT_AND_LOOPED.false)
