-- One axis of the two, and the bit of the flag byte that says that a point is touched on it: document 01, "What the replayer holds". Assumes nothing.
use Rattle.std.specs.Prelude.{ℕ}
use Rattle.flags.specs.declared.Axis.{Axis}
use Rattle.flags.specs.declared.Axis.TheVariants.{X, Y}

abbrev pub touch_bit : Axis → ℕ
touch_bit X = 2
touch_bit Y = 4
