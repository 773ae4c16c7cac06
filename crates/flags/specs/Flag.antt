-- The flag byte of a point: document 01, "What the replayer holds": bit 0 on curve, bit 1 x touched, bit 2 y touched. Assumes nothing.
use Rattle.std.specs.Prelude.{ℕ, ◌-◌, ◌/◌, ◌%◌, ◌^◌, Bool, not, eqb}
use Rattle.std.specs.Int.Bits.{bit_and}
use Rattle.flags.specs.declared.CoordAxis.{CoordAxis}
use Rattle.flags.specs.declared.CoordAxis.TheVariants.{Both, X, Y}

-- bit k of a byte, 0 or 1
abbrev pub bit : ℕ → ℕ → ℕ
bit k flag = flag / 2 ^ k % 2

abbrev pub has_any : ℕ → ℕ → Bool
has_any flag mask = not (eqb (bit_and flag mask) 0)

abbrev pub cleared : ℕ → ℕ → ℕ
cleared flag mask = bit_and flag (255 - mask)

-- the touch bits of an axis
abbrev pub touch_bits : CoordAxis → ℕ
touch_bits Both = 6
touch_bits X = 2
touch_bits Y = 4
