-- `line_distance::rounded` meets its contract: by the native ClearType fact. Assumes nothing.
use mathlib.Core.Path.{◌∙◌, ap}
use native.Mathlib.Omega.{arith}
use lib.IntN.{ℤ}
use mir.Facts.{to_z-of_z}
use Rattle.int.proofs.Words.{back32}
use Rattle.line_distance.specs.Distance.{rounded_unless}
use Rattle.round.proofs.Exact.{tracked}
use Rattle.round.specs.Round.{rounding}
use Rattle.round.specs.Tracked.{given}
use Rattle.line_distance.proofs.rounded.Goals as goal

pub returns-then-native : goal.returns-then-native
unfolding rounded_unless
returns-then-native c =
    rw c.if-native.true (c.as_it_is.ensures ∙ ap given (to_z-of_z c.ranges.d))

pub returns-else-native : goal.returns-else-native
unfolding rounded_unless
returns-else-native c =
    rw c.if-native.false
    (ap (λ (z : ℤ). tracked z c.round-r.result.wrapped) (back32 c.round-r.result.word (omega (arith, c.struct_told-1.given)))
    ∙ c.round-r.ensures
    ∙ ap (rounding c.args.round) (to_z-of_z c.ranges.d))
