-- What the mask of `floor_pad` means at a power of two: the multiple below. A word's bits are cut at bit k, and the mask keeps what stands
-- above; below zero the bits are 2 ^ 32 less the magnitude, and 2 ^ 32 is a whole number of blocks. Assumes nothing.
use mathlib.Core.Path.{◌≡◌, sym, ap, ◌∙◌, subst}
use Prim.Native.Nat.{ℕ, suc, ◌+◌, ◌-◌, ◌*◌, ◌/◌, ◌%◌, ◌^◌, ◌≤◌, ◌<◌}
use native.Mathlib.Omega.{arith}
use native.Mathlib.Nat.{lt_of_le_of_lt, add-mul, suc-mul, mod-lt, mul-le-mul_right, div-add-mod', div-mul-le_self}
use lib.IntN.{ℤ, pos, negsuc, neg_ℤ}
use lib.Bits.{bit_and, and_high}
use lib.Pow.{pow_mono, pow-add, pow_pos, shr_lt, shr_mod}
use lib.Arith.{digits_div}
use mir.Syntax.{w32}
use mir.Val.{SFits, to_z, of_z}
use mir.Facts.{of_z-to_z}
use mir.ValLaws.{to_z_pos, to_z-neg}
use Rattle.int.proofs.Ints.{neg_suc}
use Rattle.int.proofs.Wraps.{low_negpos}
use Rattle.int.specs.Word.{low, wrap32, neg32, and32}
use Rattle.math.specs.Fixed.{multiple_below, pad_floor}

module _ (k : ℕ) (le : k ≤ 30) where
  -- a power of two in blocks of 2 ^ k
  blocks : (j : ℕ) → k ≤ j → 2 ^ j ≡ 2 ^ (j - k) * 2 ^ k
  blocks j h = let e : j - k + k ≡ j = omega arith in sym (ap (λ (i : ℕ). 2 ^ i) e) ∙ pow-add 2 (j - k) k

  -- n in blocks, below a power of two
  count : (n j : ℕ) → k ≤ j → n < 2 ^ j → n / 2 ^ k < 2 ^ (j - k)
  count n j h l = let e : j - k + k ≡ j = omega arith in shr_lt (j - k) k (subst (λ (i : ℕ). n < 2 ^ i) (sym e) l)

  -- the mask keeps the whole blocks
  cut : (n : ℕ) → n < 2 ^ 32 → bit_and n (2 ^ 32 - 2 ^ k) ≡ n / 2 ^ k * 2 ^ k
  cut n h =
      let e : 32 - k + k ≡ 32 = omega arith in
      ap (λ (i : ℕ). bit_and n (2 ^ i - 2 ^ k)) (sym e)
      ∙ and_high n (32 - k) k
      ∙ ap (λ (i : ℕ). i * 2 ^ k) (shr_mod (32 - k) k (subst (λ (i : ℕ). n < 2 ^ i) (sym e) h))

  -- the block that the bits of -(n + 1) lie in
  over : (n : ℕ) → n < 2 ^ 32 → (2 ^ 32 - suc n) / 2 ^ k * 2 ^ k ≡ 2 ^ 32 - suc (n / 2 ^ k * 2 ^ k + (2 ^ k - 1))
  over n h =
      let q = n / 2 ^ k in let r = n % 2 ^ k in let t = 2 ^ (32 - k) - suc q in
      let d : q * 2 ^ k + r ≡ n = div-add-mod' n (2 ^ k) in
      let rl : r < 2 ^ k = mod-lt n (pow_pos k) in
      let ql : q < 2 ^ (32 - k) = count n 32 (omega arith) h in
      let b : 2 ^ 32 ≡ 2 ^ (32 - k) * 2 ^ k = blocks 32 (omega arith) in
      let s : 2 ^ (32 - k) ≡ suc q + t = omega arith in
      let jm : 2 ^ (32 - k) * 2 ^ k ≡ suc q * 2 ^ k + t * 2 ^ k = ap (λ (i : ℕ). i * 2 ^ k) s ∙ add-mul (suc q) t (2 ^ k) in
      let sm : suc q * 2 ^ k ≡ q * 2 ^ k + 2 ^ k = suc-mul q (2 ^ k) in
      let w : 2 ^ 32 - suc n ≡ t * 2 ^ k + (2 ^ k - 1 - r) = omega (arith, d, rl, b, jm, sm) in
      let v : (2 ^ 32 - suc n) / 2 ^ k ≡ t = ap (λ (i : ℕ). i / 2 ^ k) w ∙ digits_div t (omega (arith, rl)) in
      ap (λ (i : ℕ). i * 2 ^ k) v ∙ omega (arith, b, jm, sm, rl)

  mask : of_z w32 (neg32 (pos (2 ^ k))) ≡ 2 ^ 32 - 2 ^ k
  unfolding neg32 wrap32
  mask =
      let l : 2 ^ k ≤ 2 ^ 30 = pow_mono le in
      let e : low (neg_ℤ (pos (2 ^ k))) ≡ 2 ^ 32 - 2 ^ k = low_negpos (2 ^ k) ∙ omega (arith, l, pow_pos k) in
      ap (λ (i : ℕ). of_z w32 (to_z w32 i)) e ∙ of_z-to_z {w = w32} (record { fits = omega (arith, pow_pos k) })

  -- -(n + 1) down to a multiple stays a word
  far : (n : ℕ) → n < 2 ^ 31 → n / 2 ^ k * 2 ^ k + (2 ^ k - 1) < 2 ^ 31
  far n h =
      let b : 2 ^ 31 ≡ 2 ^ (31 - k) * 2 ^ k = blocks 31 (omega arith) in
      let m : suc (n / 2 ^ k) * 2 ^ k ≤ 2 ^ (31 - k) * 2 ^ k = mul-le-mul_right (2 ^ k) (count n 31 (omega arith) h) in
      omega (arith, b, m, suc-mul (n / 2 ^ k) (2 ^ k), pow_pos k)

  pub pad_pow : (z : ℤ) → SFits w32 z → pad_floor z (pos (2 ^ k)) ≡ multiple_below (2 ^ k) z
  unfolding pad_floor and32 multiple_below
  pad_pow (pos n) f =
      rw (mask, cut n (omega (arith, f.sfits))) (to_z_pos w32 (n / 2 ^ k * 2 ^ k) (lt_of_le_of_lt (div-mul-le_self n (2 ^ k)) f.sfits))
  pad_pow (negsuc n) f =
      rw (mask, cut (2 ^ 32 - suc n) (omega arith), over n (omega (arith, f.sfits)))
      (to_z-neg w32 (n / 2 ^ k * 2 ^ k + (2 ^ k - 1)) (far n f.sfits)
      ∙ sym (neg_suc (suc (n / 2 ^ k) * 2 ^ k) (n / 2 ^ k * 2 ^ k + (2 ^ k - 1)) (omega (arith, suc-mul (n / 2 ^ k) (2 ^ k), pow_pos k))))
