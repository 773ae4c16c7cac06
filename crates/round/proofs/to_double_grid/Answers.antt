-- `round::to_double_grid` meets its contract: each step is what its call ensures. Assumes nothing.
use mathlib.Core.Path.{◌∙◌, ap, ap₂}
use native.Mathlib.Omega.{arith}
use lib.IntN.{ℤ, pos}
use mir.Facts.{to_z-of_z}
use Rattle.int.proofs.Words.{back32}
use Rattle.math.specs.Fixed.{pad_floor}
use Rattle.round.specs.Round.{double_grid, inward, outward}
use Rattle.round.specs.Tracked.{given, on, plus}
use Rattle.round.proofs.Exact.{tracked}
use Rattle.round.proofs.to_double_grid.Goals as goal

pub returns : goal.returns
unfolding double_grid
returns c = let f = c in let p = f in let g = p in let o = g in let d = to_z-of_z o.ranges.d in
    let sum = p.plus-sum.ensures ∙ ap₂ plus (o.outward.ensures ∙ ap outward d) g.given.ensures in
    c.inward.ensures
    ∙ ap₂ inward d
    (ap (λ (z : ℤ). tracked z p.plus-sum.result.wrapped) (back32 f.floor_pad.result f.floor_pad.type_inv ∙ f.floor_pad.ensures ∙ ap (λ (z : ℤ). pad_floor z (pos 32)) (back32 p.plus-sum.result.word (omega arith)))
    ∙ ap (on (λ z. pad_floor z (pos 32))) sum)
