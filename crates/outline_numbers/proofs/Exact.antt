-- The f32 of z / 128 has that value, its bits stand for it, and two of them are ordered as their numbers. Assumes nothing.
use mathlib.Core.Path.{◌≡◌, refl, sym, ap, ◌∙◌, subst}
use Prim.Native.Nat.{ℕ, zero, suc, ◌+◌, ◌*◌, ◌/◌, ◌%◌, ◌^◌, ◌≤◌, ◌<◌}
use native.Mathlib.Nat.{mul_assoc, mul_comm, mul_left_comm, mul_right_comm, mul-one, one-mul, mul-pos, eq_of_mul-eq-mul_right, le_of_lt, lt_of_le_of_lt, lt_of_lt_of_le, le_of_suc-le-suc, lt_of_mul-lt-mul_right, mul-lt-mul_of_pos_right, mul-le-mul_right, le_of_mul-le-mul_right, le_trans, le_of_eq, ne_of_gt, zero-lt-suc, zero-mul, le-add_right, eq-or-lt_of_le, pow-suc, mod-lt}
use native.Mathlib.Omega.{arith}
use mathlib.Core.Bool.{Bool, true, false, cond, not}
use mathlib.Core.Logic.{inl, inr}
use lib.Dec.{T, leb, ltb, eqb, lit<, lit≤, le→leb, lt→ltb, eqb-suc-zero, leb-suc-suc, eqb_refl, T_not}
use lib.IntN.{ℤ, pos, negsuc, nat_abs}
use lib.Signed.{non_neg, lt_z}
use borrow.Author.Tests.{lt-ltb, le-ltb, ltb-true, ltb-false}
use lib.Pow.{pow_pos, pow_mono, shl_lt}
use lib.Ieee.{Float, nan, inf, fin, binary32, prec, low, up, down, odd, unlike, round, mul, of_int, of_bits, to_bits, of_fields, fits, in_float, lt, below}
use lib.Ieee.Fits.{mul-fits, of_int-fits, down_pos}
use lib.Ieee.Exact.{HasValue, odd_sign, round_exact}
use lib.Ieee.Back.{round_whole}
use lib.Ieee.Bits.{of_bits-to_bits, to_bits-lt}
use Rattle.outline_numbers.specs.Fraction.{of128, StandsFor, sign_bit, exponent_field, digits_field, significand, scale}

-- ---- the value

-- the sign of z, and its size
abbrev pub negative : ℤ → Bool
negative z = not (non_neg z)

pub of_int_value : (z : ℤ) → nat_abs z ≤ 2 ^ 24 → HasValue (of_int binary32 z) (negative z) (nat_abs z) 1
unfolding of_int
of_int_value (pos n) h = round_whole binary32 false n h
of_int_value (negsuc n) h = round_whole binary32 true (suc n) h

-- from one fraction to another of the same size
rescale : (x : Float) (s : Bool) (w l num den : ℕ) → 0 < l → num * l ≡ w * den → HasValue x s w l → HasValue x s num den
rescale nan s w l num den p h v = v
rescale (inf t) s w l num den p h v = v
rescale (fin t m e) s w l num den p h v = (
  v.0,
  eq_of_mul-eq-mul_right l p (m * up e * den) (num * down e)
      (mul_right_comm (m * up e) den l
      ∙ ap (λ (x : ℕ). x * den) v.1
      ∙ mul_right_comm w (down e) den
      ∙ ap (λ (x : ℕ). x * down e) (sym h)
      ∙ mul_right_comm num l (down e)),
)

-- n / 1 times 1 / 128, over numbers that are not written out: omega and simp stop at numerals of more than 38 digits
scaled : (n a d p q k : ℕ) → p ≡ q * k → a * 1 ≡ n * d → a * 1 * p ≡ n * q * (d * k)
scaled n a d p q k e h = rw (h, e) (simp (mul_assoc, mul_left_comm))

unscaled : (n a d k : ℕ) → a * 1 ≡ n * d → n * (d * k) ≡ a * 1 * k
unscaled n a d k h = rw h (sym (mul_assoc n d k))

same_sign : (t : Bool) → unlike t false ≡ t
same_sign true = refl
same_sign false = refl

mul_value : (x : Float) (s : Bool) (n : ℕ) → n < 2 ^ 24 → HasValue x s n 1 → HasValue (mul binary32 x (fin false 1 (negsuc 6))) s n 128
unfolding mul
mul_value nan s n h v = absurd v
mul_value (inf t) s n h v = absurd v
mul_value (fin t m e) s n h v =
    rescale (round binary32 (unlike t false) (m * up e * 1) (down e * 128)) s (m * up e * 1) (down e * 128) n 128 (mul-pos (down_pos e) (lit< tt)) (unscaled n (m * up e) (down e) 128 v.1)
    (subst (λ (b : Bool). HasValue (round binary32 (unlike t false) (m * up e * 1) (down e * 128)) b (m * up e * 1) (down e * 128)) (same_sign t ∙ v.0)
    (round_exact binary32 (unlike t false) (m * up e * 1) (down e * 128) n 142 (mul-pos (down_pos e) (lit< tt)) h
    (lt_of_lt_of_le (shl_lt 24 142 h) (pow_mono {i = 166} {j = 277} (lit≤ tt)))
    (scaled n (m * up e) (down e) (2 ^ 149) (2 ^ 142) 128 refl v.1)))

pub of128_value : (z : ℤ) → nat_abs z < 2 ^ 24 → HasValue (of128 z) (negative z) (nat_abs z) 128
unfolding of128 of_bits
of128_value z h = mul_value (of_int binary32 z) (negative z) (nat_abs z) h (of_int_value z (le_of_lt h))

-- a number that a cast to f32 takes as it is
abbrev pub Castable : ℤ → Type 0
Castable z = T (in_float binary32 z)

pub castable : (z : ℤ) → nat_abs z < 2 ^ 24 → Castable z
unfolding in_float
castable (pos n) h = le→leb n (2 ^ 24) (omega arith)
castable (negsuc n) h = lt→ltb n (2 ^ 24) (omega arith)

pub of128_fits : (z : ℤ) → T (fits binary32 (of128 z))
unfolding of128
of128_fits z = mul-fits binary32 (of_int binary32 z) (of_bits binary32 0x3c00_0000)

-- ---- the bits

-- one value has one sign, and two fractions of it are equal
unique : (x : Float) (s t : Bool) (a b c d : ℕ) → HasValue x s a c → HasValue x t b d → (s ≡ t) × (a * d ≡ b * c)
unique nan s t a b c d v w = absurd v
unique (inf u) s t a b c d v w = absurd v
unique (fin u m e) s t a b c d v w = (
  sym v.0 ∙ w.0,
  eq_of_mul-eq-mul_right (down e) (down_pos e) (a * d) (b * c)
      (mul_right_comm a d (down e) ∙ ap (λ (x : ℕ). x * d) (sym v.1) ∙ mul_right_comm (m * up e) c d ∙ ap (λ (x : ℕ). x * c) w.1 ∙ mul_right_comm b (down e) c),
)

-- What the three fields say where they are those of a number a / 128 of the sign s
abbrev Fields : Bool → ℕ → ℕ → Bool → ℕ → Type 0
Fields sb x t s a = (x < 255) × (sb ≡ s) × (cond (eqb x 0) t (2 ^ 23 + t) * 2 ^ cond (eqb x 0) 1 x * 128 ≡ a * 2 ^ 150)

doubled : (q u a c p : ℕ) → p ≡ c * 2 → q * u * 128 ≡ a * c → q * (u * 2) * 128 ≡ a * p
doubled q u a c p e h = ap (λ (x : ℕ). x * 128) (sym (mul_assoc q u 2)) ∙ mul_right_comm (q * u) 2 128 ∙ ap (λ (x : ℕ). x * 2) h ∙ mul_assoc a c 2 ∙ ap (λ (x : ℕ). a * x) (sym e)

no_inf : (b sb s : Bool) (a c : ℕ) → HasValue (cond b (inf sb) nan) s a c → ⊥
no_inf true sb s a c v = v
no_inf false sb s a c v = v

below_255 : (x : ℕ) → suc x < 256 → (suc x ≡ 255 → ⊥) → suc x < 255
below_255 x h n = elim (eq-or-lt_of_le (le_of_suc-le-suc h)) [ inl e ↦ absurd (n e) | inr l ↦ l ]

module _ (sb : Bool) (x t : ℕ) (s : Bool) (a : ℕ) (small : suc x < 256) where
  fields_suc : (b : Bool) → (T (not b) → suc x ≡ 255 → ⊥) → HasValue (cond b (cond (eqb t 0) (inf sb) nan) (odd 24 sb (2 ^ 23 + t) x 149)) s a 128 → Fields sb (suc x) t s a
  fields_suc true n v = absurd (no_inf (eqb t 0) sb s a 128 v)
  fields_suc false n v =
      let u = unique (odd 24 sb (2 ^ 23 + t) x 149) sb s ((2 ^ 23 + t) * 2 ^ x) a (2 ^ 149) 128 (odd_sign 24 sb (2 ^ 23 + t) x 149) v in (
        below_255 x small (n tt),
        u.0,
        subst (λ (b : Bool). cond b t (2 ^ 23 + t) * 2 ^ cond b 1 (suc x) * 128 ≡ a * 2 ^ 150) (sym (eqb-suc-zero x))
            (subst (λ (p : ℕ). (2 ^ 23 + t) * p * 128 ≡ a * 2 ^ 150) (sym (pow-suc 2 x)) (doubled (2 ^ 23 + t) (2 ^ x) a (2 ^ 149) (2 ^ 150) refl u.1)),
      )

fields : (sb : Bool) (x t : ℕ) (s : Bool) (a : ℕ) → x < 256 → HasValue (of_fields binary32 sb x t) s a 128 → Fields sb x t s a
unfolding of_fields
fields sb zero t s a k v =
    let u = unique (odd 24 sb t 0 149) sb s (t * 2 ^ 0) a (2 ^ 149) 128 (odd_sign 24 sb t 0 149) v in (
      lit< tt,
      u.0,
      doubled t 1 a (2 ^ 149) (2 ^ 150) refl u.1,
    )
fields sb (suc x) t s a k v = fields_suc sb x t s a k (eqb (suc x) 255) (λ n e. T_not (eqb (suc x) 255) n (subst (λ (y : ℕ). T (eqb (suc x) y)) e (eqb_refl (suc x)))) v

field_small : (b : ℕ) → b % 2 ^ 31 / 2 ^ 23 < 256
field_small b = omega (arith, mod-lt b {m = 2 ^ 31} (lit< tt))

pub bits_of : (x : Float) (z : ℤ) → T (fits binary32 x) → HasValue x (negative z) (nat_abs z) 128 → StandsFor (to_bits binary32 x) z
unfolding of_bits
bits_of x z f v =
    let b = to_bits binary32 x in
    let k = fields (sign_bit b) (exponent_field b) (digits_field b) (negative z) (nat_abs z) (field_small b) (subst (λ (y : Float). HasValue y (negative z) (nat_abs z) 128) (sym (of_bits-to_bits binary32 x f)) v) in
    record { word = to_bits-lt binary32 x f; finite = k.0; sign = k.1; size = k.2 }

pub of128_stands : (z : ℤ) → nat_abs z < 2 ^ 24 → StandsFor (to_bits binary32 (of128 z)) z
of128_stands z h = bits_of (of128 z) z (of128_fits z) (of128_value z h)

-- ---- the order
as_scaled : (X Y p q D : ℕ) → 0 < D → X * 128 ≡ p * D → Y * 128 ≡ q * D → ltb X Y ≡ ltb p q
as_scaled X Y p q D h f g = go (ltb p q) (ltb-true p q) (ltb-false p q)
  where
    go : (b : Bool) → (b ≡ true → p < q) → (b ≡ false → q ≤ p) → ltb X Y ≡ b
    go true l m = lt-ltb X Y (lt_of_mul-lt-mul_right 128 (subst (λ (n : ℕ). n < Y * 128) (sym f) (subst (λ (n : ℕ). p * D < n) (sym g) (mul-lt-mul_of_pos_right (l refl) h))))
    go false l m = le-ltb X Y (le_of_mul-le-mul_right (le_trans (le_of_eq g) (le_trans (mul-le-mul_right D (m refl)) (le_of_eq (sym f)))) (lit< {m = 0} {n = 128} tt))

above : (X p D : ℕ) → 0 < D → X * 128 ≡ suc p * D → 0 < X
above zero p D h f = absurd (ne_of_gt (mul-pos (zero-lt-suc p) h) (sym f ∙ zero-mul 128))
above (suc X) p D h f = zero-lt-suc X

left_of : (m c a de dd : ℕ) → m * c ≡ a * de → m * dd * c ≡ a * (de * dd)
left_of m c a de dd h = mul_right_comm m dd c ∙ ap (λ (x : ℕ). x * dd) h ∙ mul_assoc a de dd

right_of : (n c b de dd : ℕ) → n * c ≡ b * dd → n * de * c ≡ b * (de * dd)
right_of n c b de dd h = left_of n c b dd de h ∙ ap (λ (x : ℕ). b * x) (mul_comm dd de)

belows : (a b : ℤ) (X Y D : ℕ) → 0 < D → X * 128 ≡ nat_abs a * D → Y * 128 ≡ nat_abs b * D → below (negative a) X (negative b) Y ≡ lt_z a b
belows (pos a) (pos b) X Y D h f g = as_scaled X Y a b D h f g
belows (pos a) (negsuc b) X Y D h f g = refl
belows (negsuc a) (pos b) X Y D h f g = lt-ltb 0 (X + Y) (lt_of_lt_of_le (above X a D h f) (le-add_right X Y))
belows (negsuc a) (negsuc b) X Y D h f g = as_scaled Y X (suc b) (suc a) D h g f ∙ leb-suc-suc (suc b) a

-- the floats of two numbers of 128ths compare as the numbers do
pub lt_values : (x y : Float) (a b : ℤ) → HasValue x (negative a) (nat_abs a) 128 → HasValue y (negative b) (nat_abs b) 128 → lt x y ≡ lt_z a b
unfolding lt
lt_values nan y a b v w = absurd v
lt_values (inf s) y a b v w = absurd v
lt_values (fin s m e) nan a b v w = absurd w
lt_values (fin s m e) (inf t) a b v w = absurd w
lt_values (fin s m e) (fin t n d) a b v w =
    ap (λ (z : Bool). below z (m * up e * down d) t (n * up d * down e)) v.0
    ∙ ap (λ (z : Bool). below (negative a) (m * up e * down d) z (n * up d * down e)) w.0
    ∙ belows a b (m * up e * down d) (n * up d * down e) (down e * down d) (mul-pos (down_pos e) (down_pos d))
    (left_of (m * up e) 128 (nat_abs a) (down e) (down d) v.1) (right_of (n * up d) 128 (nat_abs b) (down e) (down d) w.1)

pub lt_128 : (a b : ℤ) → nat_abs a < 2 ^ 24 → nat_abs b < 2 ^ 24 → lt (of128 a) (of128 b) ≡ lt_z a b
lt_128 a b h k = lt_values (of128 a) (of128 b) a b (of128_value a h) (of128_value b k)
