-- Which lines look or work across an axis. Assumes nothing.
use mathlib.Core.Bool.{Bool, ◌||◌}
use Prim.Native.Nat.{ℕ}
use Rattle.flags.specs.declared.Axis.{Axis}
use Rattle.laws_axes.specs.Axes.{interpolates_across, mixes}

-- a line that looks or works across the axis
abbrev pub works_across : Axis → ℕ → Bool
works_across a op = mixes a op || interpolates_across a op
