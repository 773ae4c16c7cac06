-- `line_set::axis_by` meets its contract: by whether the opcode is odd. Assumes nothing.
use Prim.Native.Nat.{◌%◌}
use borrow.Author.Tests.{eq-eqb, ne_eqb}
use Rattle.line_set.specs.Setters.{axis_by}
use Rattle.line_set.proofs.axis_by.Goals as goal

pub returns-then-opcode-eq1 : goal.returns-then-opcode-eq1
unfolding axis_by
returns-then-opcode-eq1 c = rw (eq-eqb (c.args.opcode % 2) 1 c.if-opcode-eq1.true) c.x_axis.ensures

pub returns-else-opcode-eq1 : goal.returns-else-opcode-eq1
unfolding axis_by
returns-else-opcode-eq1 c = rw (ne_eqb (c.args.opcode % 2) 1 c.if-opcode-eq1.false) c.y_axis.ensures
