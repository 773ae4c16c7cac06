-- `outline_calls::bounds_in` meets its contract: by whether there is a box. Assumes nothing.
use borrow.Author.Tests.{eq-eqb, ne_eqb}
use Rattle.outline_calls.proofs.bounds_in.Goals as goal

-- src/lib.rt:47:1
pub returns-then-boxed-eq0 : goal.returns-then-boxed-eq0
returns-then-boxed-eq0 c = let a = c.args in
    rw (eq-eqb a.boxed 0 c.if-boxed-eq0.true)

-- src/lib.rt:47:1
pub returns-else-boxed-eq0 : goal.returns-else-boxed-eq0
returns-else-boxed-eq0 c = let a = c.args in
    rw (ne_eqb a.boxed 0 c.if-boxed-eq0.false)
