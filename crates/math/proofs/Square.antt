-- Why `mul_div` may go the short way on a square grid. A quotient by 0x4000, which is 1 as a 2.14 number, is the product of two 2.14 numbers: both
-- round the magnitude's halves upward, and the sign may be taken before the word is cut or after it, modulo 2 ^ 32. Assumes nothing.
use Prim.Native.Nat.{ℕ, zero, suc, ◌+◌, ◌*◌, ◌/◌}
use native.Mathlib.Omega.{arith}
use mathlib.Core.Bool.{true}
use mathlib.Core.Path.{◌≡◌, refl, sym, ap, ◌∙◌}
use lib.IntN.{ℤ, pos, negsuc, neg_ℤ}
use mir.Syntax.{w32}
use mir.Val.{SFits}
use Rattle.int.specs.Word.{wrap32, neg32}
use Rattle.int.proofs.Ints.{lt_z_zero}
use Rattle.int.proofs.Wraps.{wrap_id, wrap_neg}
use Rattle.math.specs.Fixed.{half_away14, half_up, mul_div, mul_fix14, with_sign}

-- halves away from zero of a number that is not above 0
half_neg : (n : ℕ) → half_away14 (neg_ℤ (pos n)) ≡ neg_ℤ (pos ((n + 8192) / 16384))
unfolding half_away14
half_neg zero = refl
half_neg (suc n) = refl

-- the sign after the word is cut, and before it
below_zero : (n : ℕ) → with_sign true ((n + 8192) / 16384) ≡ wrap32 (half_away14 (neg_ℤ (pos n)))
unfolding with_sign neg32
below_zero n = wrap_neg (pos ((n + 8192) / 16384)) ∙ ap wrap32 (sym (half_neg n))

-- by 1 there is only the product to round
pub over_one : (a b : ℤ) → mul_fix14 a b ≡ mul_div a b (pos 0x4000)
unfolding mul_fix14 mul_div half_up half_away14 with_sign
over_one (pos a) (pos b) = rw (lt_z_zero (pos a), lt_z_zero (pos b)) refl
over_one (pos a) (negsuc b) = rw (lt_z_zero (pos a)) (sym (below_zero (a * suc b)))
over_one (negsuc a) (pos b) = rw (lt_z_zero (pos b)) (sym (below_zero (suc a * b)))
over_one (negsuc a) (negsuc b) = refl

-- n ones hold one n times
once : (n : ℕ) → half_up (n * 0x4000) 0x4000 ≡ n
unfolding half_up
once n = omega arith

-- a times 1, by 1, is a: at -2 ^ 31 too
pub one_over_one : (a : ℤ) → SFits w32 a → a ≡ mul_div a (pos 0x4000) (pos 0x4000)
unfolding mul_div with_sign neg32
one_over_one (pos n) f = rw (lt_z_zero (pos n), once n) (sym (wrap_id (pos n) f))
one_over_one (negsuc n) f = rw (once (suc n)) (sym (wrap_neg (pos (suc n)) ∙ wrap_id (negsuc n) f))
