-- `line_distance::minimum_of` meets its contract: by the native ClearType fact. Assumes nothing.
use mathlib.Core.Path.{◌∙◌, ap}
use lib.IntN.{ℤ}
use lib.Signed.{shr_z}
use mir.Facts.{to_z-of_z}
use Rattle.int.proofs.Words.{back32}
use Rattle.line_distance.specs.Distance.{minimum_of}
use Rattle.line_distance.proofs.minimum_of.Goals as goal

pub returns-then-native : goal.returns-then-native
unfolding minimum_of
returns-then-native c =
    rw c.if-native.true (back32 c.shift_right.result c.shift_right.type_inv ∙ c.shift_right.ensures ∙ ap (λ (z : ℤ). shr_z z 2) (to_z-of_z c.ranges.minimum))

pub returns-else-native : goal.returns-else-native
unfolding minimum_of
returns-else-native c =
    rw c.if-native.false (to_z-of_z c.ranges.minimum)
