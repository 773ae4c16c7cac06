-- `line_measure::vector_for` meets its contract: by whether the points are the original outline's. Assumes nothing.
use mathlib.Core.Path.{refl}
use Rattle.line_measure.proofs.Cases.{left, taken}
use Rattle.line_measure.proofs.vector_for.Goals as goal

pub returns-then-original : goal.returns-then-original
returns-then-original c = taken _ _ c.if-original.true refl

pub returns-else-original : goal.returns-else-original
returns-else-original c = left _ _ c.if-original.false refl
