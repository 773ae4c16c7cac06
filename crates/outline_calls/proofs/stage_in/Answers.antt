-- `outline_calls::stage_in` meets its contract: by the number. Assumes nothing.
use borrow.Author.Tests.{eq-eqb, ne_eqb}
use Rattle.outline_calls.proofs.stage_in.Goals as goal

-- src/lib.rt:35:1
pub returns-then-number-eq0 : goal.returns-then-number-eq0
returns-then-number-eq0 c = let a = c.args in
    rw (eq-eqb a.number 0 c.if-number-eq0.true)

-- src/lib.rt:35:1
pub returns-then-number-eq1 : goal.returns-then-number-eq1
returns-then-number-eq1 c = let a = c.args in
    rw (ne_eqb a.number 0 c.if-number-eq0.false, eq-eqb a.number 1 c.if-number-eq1.true)

-- src/lib.rt:35:1
pub returns-else-number-eq1 : goal.returns-else-number-eq1
returns-else-number-eq1 c = let a = c.args in
    rw (ne_eqb a.number 0 c.if-number-eq0.false, ne_eqb a.number 1 c.if-number-eq1.false)
