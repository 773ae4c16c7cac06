-- What document 01 says of Grid, Up and Down: a multiple of 64 and the distance's sign on every input, and how far a distance moves where
-- nothing wraps. All three are `mirrored` of a rounding up to or down to a multiple, so each fact is one law of `mirrored`.
-- Assumes nothing.
use mathlib.Core.Path.{◌≡◌, refl, ap, subst, sym, ◌∙◌}
use mathlib.Core.Logic.{⊎_elim}
use mathlib.Core.Bool.{true, false, cond}
use Prim.Native.Nat.{ℕ, zero, suc, ◌+◌, ◌-◌, ◌*◌, ◌/◌, ◌%◌, ◌^◌, ◌≤◌, ◌<◌}
use native.Mathlib.Omega.{arith}
use borrow.Author.Tests.{lt-leb}
use lib.IntN.{ℤ, pos, negsuc, ◌-ℤ◌, neg_ℤ, nat_abs, sub_ℕ}
use lib.Signed.{non_neg, le_z}
use mir.Syntax.{w32}
use mir.Val.{SFits, to_z}
use mir.ValLaws.{to_z_pos}
use Rattle.int.proofs.Ints.{split, sub_lo, sub_hi, sub_pos, neg_add, neg_suc, abs_neg, mag_negpos}
use Rattle.int.proofs.Words.{to_z_high}
use Rattle.int.proofs.Wraps.{wrap_id}
use Rattle.int.specs.Word.{wrap32, add32, neg32, min_z, max_z}
use Rattle.math.proofs.Masks.{pad_pow}
use Rattle.math.specs.Fixed.{multiple_below, pad_floor, pix_floor, pix_round, pix_ceil}
use Rattle.round.specs.Round.{mirrored, grid, down_to_grid, inward, outward, up_to_grid, period_floor}
use Rattle.round.specs.Tracked.{given, negated, plus}
use Rattle.round.specs.declared.Tracked.{Tracked}
use Rattle.int.proofs.Tests.{either}

-- a result from 0 up of a distance from 0 up, and one from 0 down of a distance below 0
abbrev pub SameSide : ℤ → ℤ → Type 0
SameSide d r = (non_neg d ≡ true → non_neg r ≡ true) × (non_neg d ≡ false → non_neg (neg_ℤ r) ≡ true)

-- f gives multiples of 64, on the distance's side of 0, on every input; within ±(2 ^ 31 - 64) it moves a distance by at most `far`
pub record Rounds (f : ℤ → ℤ) (far : ℕ) : Type 0 where
  pub whole : (d : ℤ) → nat_abs (f d) % 64 ≡ 0
  pub side : (d : ℤ) → SameSide d (f d)
  pub near : (d : ℤ) → nat_abs d ≤ 2 ^ 31 - 64 → nat_abs (f d -ℤ d) ≤ far

-- what a mirrored rounding is as a word: the marks have no part in it
abbrev mirrored_word : (ℤ → ℤ) → ℤ → ℤ
mirrored_word f d = cond (non_neg d) (max_z (f d) (pos 0)) (min_z (neg32 (f (neg32 d))) (pos 0))

mirrored_word_lem : (f : Tracked → Tracked) (g : ℤ → ℤ) → ((x : Tracked) → (f x).word ≡ g x.word) → (d : ℤ) → (mirrored f d).word ≡ mirrored_word g d
unfolding inward outward negated neg32
mirrored_word_lem f g e (pos n) = ap (λ (z : ℤ). max_z z (pos 0)) (e (given (pos n)))
mirrored_word_lem f g e (negsuc n) = ap (λ (z : ℤ). min_z (wrap32 (neg_ℤ z)) (pos 0)) (e (negated (given (negsuc n))))

-- ---- the multiple of 64 below, by the sign
floor_pos : (n : ℕ) → pix_floor (pos n) ≡ pos (n / 64 * 64)
unfolding multiple_below
floor_pos n = refl

floor_neg : (n : ℕ) → pix_floor (negsuc n) ≡ negsuc (n / 64 * 64 + 63)
unfolding multiple_below
floor_neg n = neg_suc (suc (n / 64) * 64) (n / 64 * 64 + 63) (omega arith)

-- ---- multiples of 64
record Whole (z : ℤ) : Type 0 where
  pub whole : nat_abs z % 64 ≡ 0

whole_floor : (z : ℤ) → Whole (pix_floor z)
whole_floor (pos n) = rw floor_pos (record { whole = omega arith })
whole_floor (negsuc n) = rw floor_neg (record { whole = omega arith })

whole_bits : (n : ℕ) → n % 64 ≡ 0 → n < 2 ^ 32 → Whole (to_z w32 n)
whole_bits n e h = ⊎_elim
    (λ l. rw (to_z_pos w32 n l) (record { whole = omega arith }))
    (λ l. rw (to_z_high w32 n l) (record { whole = omega arith }))
    (split n (2 ^ 31))

whole_wrap : (z : ℤ) → Whole z → Whole (wrap32 z)
unfolding wrap32
whole_wrap (pos n) m = whole_bits (n % 2 ^ 32) (omega (arith, m.whole)) (omega arith)
whole_wrap (negsuc n) m = whole_bits (2 ^ 32 - suc (n % 2 ^ 32)) (omega (arith, m.whole)) (omega arith)

whole_neg : (z : ℤ) → Whole z → Whole (neg32 z)
unfolding neg32
whole_neg z m = whole_wrap (neg_ℤ z) (record { whole = ap (λ (n : ℕ). n % 64) (abs_neg z) ∙ m.whole })

whole_zero : Whole (pos 0)
whole_zero = record { whole = refl }

whole_max : (z : ℤ) → Whole z → Whole (max_z z (pos 0))
unfolding max_z
whole_max z m = either Whole (le_z z (pos 0)) whole_zero m

whole_min : (z : ℤ) → Whole z → Whole (min_z z (pos 0))
unfolding min_z
whole_min z m = either Whole (le_z z (pos 0)) m whole_zero

whole_mirrored : (f : ℤ → ℤ) → ((z : ℤ) → Whole (f z)) → (d : ℤ) → Whole (mirrored_word f d)
whole_mirrored f w d = either Whole (non_neg d)
    (whole_max (f d) (w d))
    (whole_min (neg32 (f (neg32 d))) (whole_neg (f (neg32 d)) (w (neg32 d))))

-- ---- the sign
max_up : (z : ℤ) → non_neg (max_z z (pos 0)) ≡ true
unfolding max_z
max_up (pos zero) = refl
max_up (pos (suc n)) = rw (lt-leb (suc n) 0 (omega arith))
max_up (negsuc n) = refl

min_down : (z : ℤ) → non_neg (neg_ℤ (min_z z (pos 0))) ≡ true
unfolding min_z
min_down (pos zero) = refl
min_down (pos (suc n)) = rw (lt-leb (suc n) 0 (omega arith))
min_down (negsuc n) = refl

side_mirrored : (f : ℤ → ℤ) (d : ℤ) → SameSide d (mirrored_word f d)
side_mirrored f (pos n) = (λ e. max_up (f (pos n)), λ e. cc e)
side_mirrored f (negsuc n) = (λ e. cc e, λ e. min_down (neg32 (f (neg32 (negsuc n)))))

-- ---- how far
abs_sub : (a b k : ℕ) → a ≤ b + k → b ≤ a + k → nat_abs (sub_ℕ a b) ≤ k
abs_sub a b k h g = ⊎_elim (λ l. rw (sub_lo a b l) (omega arith)) (λ l. rw (sub_hi a b l) (omega arith)) (split a b)

max_pos : (n : ℕ) → max_z (pos n) (pos 0) ≡ pos n
unfolding max_z
max_pos zero = refl
max_pos (suc n) = rw (lt-leb (suc n) 0 (omega arith))

min_neg : (n : ℕ) → min_z (neg_ℤ (pos n)) (pos 0) ≡ neg_ℤ (pos n)
unfolding min_z
min_neg zero = refl
min_neg (suc n) = refl

-- -n is a word where n is below 2 ^ 31
neg_id : (n : ℕ) → n < 2 ^ 31 → neg32 (pos n) ≡ neg_ℤ (pos n)
unfolding neg32
neg_id n h = wrap_id (neg_ℤ (pos n)) (record { sfits = omega (arith, mag_negpos n) })

neg_back : (n : ℕ) → suc n < 2 ^ 31 → neg32 (negsuc n) ≡ pos (suc n)
unfolding neg32
neg_back n h = wrap_id (pos (suc n)) (record { sfits = h })

-- what is asked of a rounding at n from 0 up, where nothing wraps
record Near (f : ℤ → ℤ) (far n m : ℕ) : Type 0 where
  pub is : f (pos n) ≡ pos m
  pub above : m ≤ n + far
  pub below : n ≤ m + far
  pub fits : m < 2 ^ 31

near_mirrored : (f : ℤ → ℤ) (g : ℕ → ℕ) (far : ℕ) → ((n : ℕ) → n ≤ 2 ^ 31 - 64 → Near f far n (g n))
    → (d : ℤ) → nat_abs d ≤ 2 ^ 31 - 64 → nat_abs (mirrored_word f d -ℤ d) ≤ far
near_mirrored f g far w (pos n) h = let v = w n h in
    rw (v.is, max_pos (g n), sub_pos (g n) n) (abs_sub (g n) n far v.above v.below)
near_mirrored f g far w (negsuc n) h = let v = w (suc n) h in
    rw (neg_back n (omega arith), v.is, neg_id (g (suc n)) v.fits, min_neg (g (suc n)), neg_add (g (suc n)) (suc n))
    (abs_sub (suc n) (g (suc n)) far v.below v.above)

-- n and a added, down to a multiple
sum_floor : (n a : ℕ) → n + a < 2 ^ 31 → pix_floor (add32 (pos n) (pos a)) ≡ pos ((n + a) / 64 * 64)
unfolding add32
sum_floor n a h = rw (wrap_id (pos (n + a)) (record { sfits = h })) (floor_pos (n + a))

-- ---- the three modes
rounds : (f : ℤ → ℤ) (g : ℕ → ℕ) (far : ℕ) → ((z : ℤ) → Whole (f z)) → ((n : ℕ) → n ≤ 2 ^ 31 - 64 → Near f far n (g n)) → Rounds (mirrored_word f) far
rounds f g far w n = record { whole = λ d. (whole_mirrored f w d).whole; side = side_mirrored f; near = near_mirrored f g far n }

-- of a mode's word
of_word : (f : Tracked → Tracked) (g : ℤ → ℤ) (far : ℕ) → ((x : Tracked) → (f x).word ≡ g x.word) → Rounds (mirrored_word g) far → Rounds (λ d. (mirrored f d).word) far
of_word f g far e r = record {
  whole = λ d. ap (λ (z : ℤ). nat_abs z % 64) (mirrored_word_lem f g e d) ∙ r.whole d;
  side = λ d. subst (SameSide d) (sym (mirrored_word_lem f g e d)) (r.side d);
  near = λ d h. subst (λ z. nat_abs (z -ℤ d) ≤ far) (sym (mirrored_word_lem f g e d)) (r.near d h);
}

pub grid_rounds : Rounds (λ d. (mirrored grid d).word) 32
unfolding grid plus add32
grid_rounds = of_word grid pix_round 32 (λ x. refl)
    (rounds pix_round (λ n. (n + 32) / 64 * 64) 32 (λ d. whole_floor (add32 d (pos 32)))
    (λ n h. record { is = sum_floor n 32 (omega arith); above = omega arith; below = omega arith; fits = omega arith }))

pub up_rounds : Rounds (λ d. (mirrored up_to_grid d).word) 63
unfolding up_to_grid plus add32
up_rounds = of_word up_to_grid pix_ceil 63 (λ x. refl)
    (rounds pix_ceil (λ n. (n + 63) / 64 * 64) 63 (λ d. whole_floor (add32 d (pos 63)))
    (λ n h. record { is = sum_floor n 63 (omega arith); above = omega arith; below = omega arith; fits = omega arith }))

pub down_rounds : Rounds (λ d. (mirrored down_to_grid d).word) 63
unfolding down_to_grid
down_rounds = of_word down_to_grid pix_floor 63 (λ x. refl)
    (rounds pix_floor (λ n. n / 64 * 64) 63 whole_floor
    (λ n h. record { is = floor_pos n; above = omega arith; below = omega arith; fits = omega arith }))

-- ---- Super by a period that is a power of two, as fonts use: the multiple of the period below
pub super_period : (k : ℕ) → k ≤ 30 → (x : Tracked) → SFits w32 x.word → (period_floor false (pos (2 ^ k)) x).word ≡ multiple_below (2 ^ k) x.word
unfolding period_floor pad_floor negated neg32
super_period k h x f = pad_pow k h x.word f
