-- `half14` and `dot14` on the machine: quotient and remainder by 2 ^ 14, each by the sign of the number. Assumes nothing.
use mathlib.Core.Path.{◌≡◌, refl, sym, ap}
use mathlib.Core.Logic.{◌⊎◌, ⊎_elim}
use Prim.Native.Nat.{ℕ, suc, ◌+◌, ◌-◌, ◌*◌, ◌/◌, ◌%◌, ◌^◌, ◌≤◌, ◌<◌}
use native.Mathlib.Omega.{arith}
use native.Mathlib.Nat.{mul-le-mul}
use lib.IntN.{ℤ, pos, negsuc, ◌+ℤ◌, ◌*ℤ◌, neg_ℤ, nat_abs, sub_ℕ}
use lib.Signed.{mag, nat_abs-le, shr_z}
use lib.Bits.{bit_and, and_mask}
use mir.Syntax.{w32, w64}
use mir.Val.{SFits, to_z, of_z}
use mir.ValLaws.{to_z_pos}
use Rattle.int.proofs.Ints.{split, sub_lo, sub_hi, neg_suc, abs_neg, mag_negpos}
use Rattle.int.specs.Word.{wrap32}
use Rattle.math.specs.Fixed.{half_away14}

-- what is added to the remainder: 8192, or 8191 below 0
unfoldable pub bias : ℤ → ℤ
bias z = pos 8192 +ℤ shr_z z (2 ^ 63)

bias_pos : (n : ℕ) → n < 2 ^ 63 → bias (pos n) ≡ pos 8192
unfolding bias
bias_pos n h = let e : n / 2 ^ 63 ≡ 0 = omega arith in rw e

bias_neg : (n : ℕ) → n < 2 ^ 63 → bias (negsuc n) ≡ pos 8191
unfolding bias
bias_neg n h = let e : n / 2 ^ 63 ≡ 0 = omega arith in rw e

pub bias_fits : (z : ℤ) → SFits w64 z → SFits w64 (bias z)
bias_fits (pos n) f = rw (bias_pos n f.sfits) (record { sfits = omega arith })
bias_fits (negsuc n) f = rw (bias_neg n f.sfits) (record { sfits = omega arith })

-- the remainder
unfoldable pub rest : ℤ → ℤ
rest z = to_z w64 (bit_and (of_z w64 z) 16383)

rest_pos : (n : ℕ) → n < 2 ^ 63 → rest (pos n) ≡ pos (n % 16384)
unfolding rest
rest_pos n h = rw (and_mask n 14) (to_z_pos w64 (n % 16384) (omega arith))

rest_neg : (n : ℕ) → n < 2 ^ 63 → rest (negsuc n) ≡ pos (16383 - n % 16384)
unfolding rest
rest_neg n h =
    let e : (2 ^ 64 - suc n) % 16384 ≡ 16383 - n % 16384 = omega arith in
    rw (and_mask (2 ^ 64 - suc n) 14, e) (to_z_pos w64 (16383 - n % 16384) (omega arith))

pub rest_fits : (z : ℤ) → SFits w64 z → SFits w64 (rest z +ℤ bias z)
rest_fits (pos n) f = rw (rest_pos n f.sfits, bias_pos n f.sfits) (record { sfits = omega arith })
rest_fits (negsuc n) f = rw (rest_neg n f.sfits, bias_neg n f.sfits) (record { sfits = omega arith })

abbrev pub halved : ℤ → ℤ
halved z = shr_z z (2 ^ 14) +ℤ shr_z (rest z +ℤ bias z) (2 ^ 14)

rest_zero : (n q : ℕ) → q ≡ (16383 - n % 16384 + 8191) / 16384 → suc (n / 16384) ≤ q → q - suc (n / 16384) ≡ 0
rest_zero n q e l = omega arith

below_half : (n q : ℕ) → q ≡ (16383 - n % 16384 + 8191) / 16384 → sub_ℕ q (suc (n / 16384)) ≡ neg_ℤ (pos ((suc n + 8192) / 16384))
below_half n q e = ⊎_elim
    (λ l. rw (sub_lo q (suc (n / 16384)) l) (sym (neg_suc ((suc n + 8192) / 16384) (suc (n / 16384) - suc q) (omega arith))))
    (λ l. let g : (suc n + 8192) / 16384 ≡ 0 = omega arith in rw (sub_hi q (suc (n / 16384)) l, g) (ap pos (rest_zero n q e l)))
    (split q (suc (n / 16384)))

pub half_is : (z : ℤ) → SFits w64 z → halved z ≡ half_away14 z
unfolding half_away14
half_is (pos n) f = rw (rest_pos n f.sfits, bias_pos n f.sfits) (ap pos (omega arith))
half_is (negsuc n) f = rw (rest_neg n f.sfits, bias_neg n f.sfits) (below_half n _ refl)

pub half_fits : (z : ℤ) → SFits w64 z → SFits w64 (halved z)
half_fits (pos n) f = rw (rest_pos n f.sfits, bias_pos n f.sfits) (record { sfits = omega (arith, f.sfits) })
half_fits (negsuc n) f = rw (rest_neg n f.sfits, bias_neg n f.sfits, below_half n _ refl) (record { sfits = omega (arith, f.sfits, mag_negpos ((suc n + 8192) / 16384)) })

-- ---- the sum of two products
pub abs_mul : (a b : ℤ) → nat_abs (a *ℤ b) ≡ nat_abs a * nat_abs b
abs_mul (pos a) (pos b) = refl
abs_mul (pos a) (negsuc b) = abs_neg (pos (a * suc b))
abs_mul (negsuc a) (pos b) = abs_neg (pos (suc a * b))
abs_mul (negsuc a) (negsuc b) = refl

pub abs_prod : (a b : ℤ) → SFits w32 a → SFits w32 b → nat_abs (a *ℤ b) ≤ 2 ^ 62
abs_prod a b f g = rw (abs_mul a b) (mul-le-mul (nat_abs-le a f.sfits) (nat_abs-le b g.sfits))

sub_small : (a b H : ℕ) → a ≤ H → b ≤ H → mag (sub_ℕ a b) ≤ H
sub_small a b H f g = ⊎_elim (λ l. rw (sub_lo a b l) (omega arith)) (λ l. rw (sub_hi a b l) (omega arith)) (split a b)

pub sum_top : (p q : ℤ) → nat_abs p ≤ 2 ^ 62 → nat_abs q ≤ 2 ^ 62 → (p ≡ pos (2 ^ 62) → q ≡ pos (2 ^ 62) → ⊥) → SFits w64 (p +ℤ q)
sum_top (pos a) (pos b) f g apart = record { sfits = ⊎_elim (λ l. omega arith) (λ l. ⊎_elim (λ m. omega arith) (λ m. absurd (apart (ap pos (omega arith)) (ap pos (omega arith)))) (split b (2 ^ 62))) (split a (2 ^ 62)) }
sum_top (pos a) (negsuc b) f g apart = record { sfits = omega (arith, sub_small a (suc b) (2 ^ 62) f g) }
sum_top (negsuc a) (pos b) f g apart = record { sfits = omega (arith, sub_small b (suc a) (2 ^ 62) g f) }
sum_top (negsuc a) (negsuc b) f g apart = record { sfits = omega arith }

-- the test on the bits of a product
pub top_of : (z : ℤ) → SFits w64 z → of_z w64 z ≡ 2 ^ 62 → z ≡ pos (2 ^ 62)
top_of (pos n) f e = ap pos e
top_of (negsuc n) f e = absurd (omega (arith, f.sfits, e))

pub dot_fits : (p q : ℤ) → nat_abs p ≤ 2 ^ 62 → nat_abs q ≤ 2 ^ 62 → (of_z w64 p ≡ 2 ^ 62 → ⊥) ⊎ (of_z w64 q ≡ 2 ^ 62 → ⊥) → SFits w64 (p +ℤ q)
dot_fits p q f g w = sum_top p q f g (λ e d. ⊎_elim (λ r. r (ap (of_z w64) e)) (λ r. r (ap (of_z w64) d)) w)

pub dot_top : (p q : ℤ) → p ≡ pos (2 ^ 62) → q ≡ pos (2 ^ 62) → wrap32 (half_away14 (p +ℤ q)) ≡ pos 0
unfolding wrap32 half_away14
dot_top p q e d = rw (e, d)
