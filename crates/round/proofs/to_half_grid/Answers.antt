-- `round::to_half_grid` meets its contract: each step is what its call ensures. Assumes nothing.
use mathlib.Core.Path.{◌∙◌, ap, ap₂}
use mir.Facts.{to_z-of_z}
use Rattle.round.specs.Round.{down_to_grid, half_grid, inward, outward}
use Rattle.round.specs.Tracked.{plus}
use Rattle.round.proofs.to_half_grid.Goals as goal

pub returns : goal.returns
unfolding half_grid down_to_grid
returns c = let p = c in let g = p in let f = g in let o = f in let d = to_z-of_z o.ranges.d in
    c.inward.ensures ∙ ap₂ inward d (p.plus.ensures ∙ ap₂ plus (f.floored.ensures ∙ ap down_to_grid (o.outward.ensures ∙ ap outward d)) g.given.ensures)
