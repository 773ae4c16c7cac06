-- `round::floored` meets its contract: its word is what the call ensures. Assumes nothing.
use mathlib.Core.Path.{◌∙◌, ap}
use native.Mathlib.Omega.{arith}
use lib.IntN.{ℤ}
use Rattle.int.proofs.Words.{back32}
use Rattle.math.specs.Fixed.{pix_floor}
use Rattle.round.specs.Round.{down_to_grid}
use Rattle.round.proofs.Exact.{tracked}
use Rattle.round.proofs.floored.Goals as goal

pub returns : goal.returns
unfolding down_to_grid
returns c = let s = c in
    ap (λ (z : ℤ). tracked z s.args.x.wrapped) (back32 c.floor.result c.floor.type_inv ∙ c.floor.ensures ∙ ap pix_floor (back32 s.args.x.word (omega arith)))
