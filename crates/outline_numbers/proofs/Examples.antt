-- Patterns of IEEE 754's binary32, worked out by another program, are those of the definition. Assumes nothing.
use mathlib.Core.Path.{◌≡◌, refl}
use Prim.Native.Nat.{ℕ}
use mathlib.Core.List.{List, [], ◌∷◌, map}
use lib.IntN.{ℤ, pos, negsuc}
use lib.Ieee.{binary32, to_bits, mul, of_int, of_bits}
use Rattle.outline_numbers.specs.Fraction.{of128}

rows : List (ℤ × ℕ)
rows = (pos 0, 0) ∷ (pos 1, 1006632960) ∷ (negsuc 0, 3154116608) ∷ (pos 128, 1065353216) ∷ (negsuc 127, 3212836864) ∷ (pos 127, 1065222144) ∷ (pos 12345, 1119937536) ∷ (negsuc 98764, 3292587648) ∷ (pos 8388607, 1199570942) ∷ (negsuc 8388606, 3347054590) ∷ (pos 8388608, 1199570944) ∷ (negsuc 8388607, 3347054592) ∷ (pos 64, 1056964608) ∷ (negsuc 191, 3217031168) ∷ []

same : map (λ (r : ℤ × ℕ). to_bits binary32 (of128 r.0)) rows ≡ map (λ (r : ℤ × ℕ). r.1) rows
unfolding rows of128 to_bits mul of_int of_bits
same = refl
