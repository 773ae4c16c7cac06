-- `line_distance::scaled_unless` meets its contract: by the outline. Assumes nothing.
use mathlib.Core.Path.{◌∙◌, ap₂}
use mir.Facts.{to_z-of_z}
use Rattle.int.proofs.Words.{back32}
use Rattle.math.specs.Fixed.{mul_fix}
use Rattle.line_distance.proofs.Seen.{no_of, yes_of}
use Rattle.line_distance.proofs.scaled_unless.Goals as goal

pub returns-then-original : goal.returns-then-original
returns-then-original c = yes_of _ c.if-original.true (to_z-of_z c.ranges.d)

pub returns-else-original : goal.returns-else-original
returns-else-original c =
    no_of _ c.if-original.false (back32 c.mul.result c.mul.type_inv ∙ c.mul.ensures ∙ ap₂ mul_fix (to_z-of_z c.ranges.d) (to_z-of_z c.ranges.scale))
