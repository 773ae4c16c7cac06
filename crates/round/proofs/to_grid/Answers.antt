-- `round::to_grid` meets its contract: each step is what its call ensures. Assumes nothing.
use mathlib.Core.Path.{◌∙◌, ap, ap₂}
use mir.Facts.{to_z-of_z}
use Rattle.round.specs.Round.{down_to_grid, grid, inward, outward}
use Rattle.round.specs.Tracked.{plus}
use Rattle.round.proofs.to_grid.Goals as goal

pub returns : goal.returns
unfolding grid down_to_grid
returns c = let f = c in let p = f in let g = p in let o = g in let d = to_z-of_z o.ranges.d in
    c.inward.ensures ∙ ap₂ inward d (f.floored.ensures ∙ ap down_to_grid (p.plus.ensures ∙ ap₂ plus (o.outward.ensures ∙ ap outward d) g.given.ensures))
