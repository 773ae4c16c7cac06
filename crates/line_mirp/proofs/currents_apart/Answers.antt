-- `line_mirp::currents_apart` meets its contract: it is what its calls ensure, put together. Assumes nothing.
use mathlib.Core.Path.{◌∙◌, ap₂}
use Rattle.int.proofs.Words.{back32}
use Rattle.projection.specs.Projection.{project_of}
use Rattle.line_mirp.proofs.currents_apart.Goals as goal

pub place_alike_in-here-requires : goal.place_alike_in-here-requires
place_alike_in-here-requires c = c.requires

pub place_alike_in-there-requires : goal.place_alike_in-there-requires
place_alike_in-there-requires c = c.requires

pub returns : goal.returns
returns c = back32 c.project.result c.project.type_inv ∙ c.project.ensures ∙ ap₂ (project_of c.args.v) c.place_alike_in-here.ensures c.place_alike_in-there.ensures
