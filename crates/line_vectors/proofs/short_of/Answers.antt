-- `line_vectors::short_of` meets its contract: it is what its calls ensure, put together. Assumes nothing.
use mathlib.Core.Path.{ap, ◌∙◌}
use lib.IntN.{ℤ, pos}
use lib.Signed.{shr_z}
use mir.Facts.{to_z-of_z}
use Rattle.int.proofs.Words.{back32}
use Rattle.int.specs.Word.{mul32}
use Rattle.line_vectors.specs.Vectors.{short}
use Rattle.line_vectors.proofs.short_of.Goals as goal

pub returns : goal.returns
unfolding short
returns c = back32 c.shift_right.result c.shift_right.type_inv ∙ c.shift_right.ensures ∙ ap (λ (z : ℤ). shr_z z 65536) (back32 c.wrapping_mul.result c.wrapping_mul.type_inv ∙ c.wrapping_mul.ensures ∙ ap (λ (z : ℤ). mul32 z (pos 65536)) (to_z-of_z c.ranges.word))
