-- `line_vectors::from_stack` meets its contract: by whether both numbers are 0. Assumes nothing.
use mir.Facts.{to_z-of_z}
use Rattle.line_vectors.proofs.Cases.{kept_so, turned_so}
use Rattle.line_vectors.proofs.from_stack.Goals as goal

pub returns-then-equal : goal.returns-then-equal
returns-then-equal c = kept_so c.args.kept (to_z-of_z c.ranges.x) (to_z-of_z c.ranges.y) c.equal.ensures c.equal-2.ensures c.if-equal.true

pub returns-else-equal : goal.returns-else-equal
returns-else-equal c = turned_so c.args.kept (to_z-of_z c.ranges.x) (to_z-of_z c.ranges.y) c.equal.ensures c.equal-2.ensures c.if-equal.false c.normalize.ensures
