-- `line_distance::cut_in_of` meets its contract: by the native ClearType fact. Assumes nothing.
use mir.Facts.{to_z-of_z}
use Rattle.int.proofs.Words.{back32}
use Rattle.line_distance.specs.Distance.{cut_in_of}
use Rattle.line_distance.proofs.cut_in_of.Goals as goal

pub returns-then-native : goal.returns-then-native
unfolding cut_in_of
returns-then-native c =
    rw c.if-native.true (cc (to_z-of_z c.ranges.cut_in, back32 c.shift_right.result c.shift_right.type_inv))

pub returns-else-native : goal.returns-else-native
unfolding cut_in_of
returns-else-native c =
    rw c.if-native.false (to_z-of_z c.ranges.cut_in)
