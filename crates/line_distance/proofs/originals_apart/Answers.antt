-- `line_distance::originals_apart` meets its contract: it is what its calls ensure, put together. Assumes nothing.
use mathlib.Core.Path.{◌∙◌, ap₂}
use Rattle.int.proofs.Words.{back32}
use Rattle.projection.specs.Projection.{along_of}
use Rattle.line_distance.specs.Outline.{originals_apart}
use Rattle.line_distance.proofs.originals_apart.Goals as goal

pub returns : goal.returns
unfolding originals_apart
returns c =
    back32 c.along.result c.along.type_inv ∙ c.along.ensures ∙ ap₂ (along_of c.args.v) c.place_in-here.ensures c.place_in-there.ensures
