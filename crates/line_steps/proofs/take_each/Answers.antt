-- `line_steps::take_each` meets its contract: by the test of the length. Assumes nothing.
use borrow.Author.Tests.{lt-ltb, le-ltb}
use lib.ListN.{length}
use Rattle.line_steps.proofs.take_each.Goals as goal

pub returns-then-operands-wanted : goal.returns-then-operands-wanted
returns-then-operands-wanted c = let a = c.args in rw (lt-ltb (length a.operands.now) a.count c.if-operands-wanted.true)

pub returns-else-operands-wanted : goal.returns-else-operands-wanted
returns-else-operands-wanted c = let a = c.args in rw (le-ltb (length a.operands.now) a.count c.if-operands-wanted.false)
