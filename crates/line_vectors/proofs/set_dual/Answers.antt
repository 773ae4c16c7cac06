-- `line_vectors::set_dual` meets its contract: one group is set, and within it two vectors. Assumes nothing.
use mathlib.Core.Path.{refl}
use Rattle.line_vectors.specs.Vectors.{dual_at}
use Rattle.line_vectors.proofs.set_dual.Goals as goal

pub returns : goal.returns
unfolding dual_at
returns c = refl
