-- `normalize::estimate_of` meets its contract: by which number is larger. Assumes nothing.
use Rattle.normalize.proofs.Seen.{first_larger, second_larger}
use Rattle.normalize.proofs.estimate_of.Goals as goal

pub returns-then-x-y : goal.returns-then-x-y
returns-then-x-y c = let a = c.args in first_larger a.x a.y c.if-x-y.true

pub returns-else-x-y : goal.returns-else-x-y
returns-else-x-y c = let a = c.args in second_larger a.x a.y c.if-x-y.false
