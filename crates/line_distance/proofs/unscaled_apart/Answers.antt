-- `line_distance::unscaled_apart` meets its contract: it is what its calls ensure, put together. Assumes nothing.
use mathlib.Core.Path.{◌∙◌, ap₂}
use mir.Facts.{to_z-of_z}
use Rattle.int.proofs.Words.{back32}
use Rattle.math.specs.Fixed.{mul_fix}
use Rattle.projection.specs.Projection.{along_of}
use Rattle.line_distance.specs.Outline.{unscaled_apart}
use Rattle.line_distance.proofs.unscaled_apart.Goals as goal

pub returns : goal.returns
unfolding unscaled_apart
returns c =
    back32 c.mul.result c.mul.type_inv
    ∙ c.mul.ensures
    ∙ ap₂ mul_fix
    (back32 c.along.result c.along.type_inv
    ∙ c.along.ensures
    ∙ ap₂ (along_of c.args.v) c.place_at-here.ensures c.place_at-there.ensures)
    (to_z-of_z c.ranges.scale)
