-- Fixed-point arithmetic on words. From FreeType 2.13.3: ftobjs.h (FT_PIX_FLOOR, FT_PIX_ROUND, FT_PIX_CEIL, FT_PAD_FLOOR, FT_PAD_ROUND),
-- ftcalc.c (FT_MulDiv, FT_MulFix, FT_DivFix) and ttinterp.c (TT_MulFix14, TT_DotFix14), at 32 bits as document 01 states them:
-- sums wrap, and of a quotient the low 32 bits are kept. Assumes nothing.
use Rattle.std.specs.Prelude.{ℕ, suc, ◌+◌, ◌*◌, ◌/◌, Bool, not, cond, eqb, ℤ, pos, negsuc, neg_ℤ, nat_abs, ◌+ℤ◌, ◌*ℤ◌}
use Rattle.std.specs.Bool.{beq}
use Rattle.std.specs.Int.Signed.{lt_z, shr_z}
use Rattle.int.specs.Word.{wrap32, add32, neg32, quot32, and32}

-- the largest multiple of m that is not above z
unfoldable pub multiple_below : ℕ → ℤ → ℤ
multiple_below m z = shr_z z m *ℤ pos m

-- 26.6 numbers to whole pixels
abbrev pub pix_floor : ℤ → ℤ
pix_floor z = multiple_below 64 z

abbrev pub pix_round : ℤ → ℤ
pix_round z = pix_floor (add32 z (pos 32))

abbrev pub pix_ceil : ℤ → ℤ
pix_ceil z = pix_floor (add32 z (pos 63))

-- x & ~(n - 1), for any n: in two's complement ~(n - 1) is -n. Where n is a power of two this is `multiple_below n x` (`pad_pow`)
unfoldable pub pad_floor : ℤ → ℤ → ℤ
pad_floor x n = and32 x (neg32 n)

unfoldable pub pad_round : ℤ → ℤ → ℤ
pad_round x n = pad_floor (add32 x (quot32 n (pos 2))) n

-- z / 2 ^ 14, halves away from zero
unfoldable pub half_away14 : ℤ → ℤ
half_away14 (pos n) = pos ((n + 8192) / 16384)
half_away14 (negsuc n) = neg_ℤ (pos ((suc n + 8192) / 16384))

unfoldable pub mul_fix14 : ℤ → ℤ → ℤ
mul_fix14 a b = wrap32 (half_away14 (a *ℤ b))

unfoldable pub dot_fix14 : ℤ → ℤ → ℤ → ℤ → ℤ
dot_fix14 ax ay bx by = wrap32 (half_away14 (ax *ℤ bx +ℤ ay *ℤ by))

-- n / d of two magnitudes, halves upward; 0x7FFFFFFF where d is 0
unfoldable pub half_up : ℕ → ℕ → ℕ
half_up n d = cond (eqb d 0) 0x7fffffff ((n + d / 2) / d)

abbrev pub xor : Bool → Bool → Bool
xor a b = not (beq a b)

-- whether an odd number of the three are below 0
abbrev pub odd_signs : ℤ → ℤ → ℤ → Bool
odd_signs a b c = xor (xor (lt_z a (pos 0)) (lt_z b (pos 0))) (lt_z c (pos 0))

-- the low 32 bits of a magnitude, then the sign
unfoldable pub with_sign : Bool → ℕ → ℤ
with_sign below q = cond below (neg32 (wrap32 (pos q))) (wrap32 (pos q))

-- a b / c
unfoldable pub mul_div : ℤ → ℤ → ℤ → ℤ
mul_div a b c = with_sign (odd_signs a b c) (half_up (nat_abs a * nat_abs b) (nat_abs c))

-- 16.16 numbers: a b / 65,536 and 65,536 a / b
abbrev pub mul_fix : ℤ → ℤ → ℤ
mul_fix a b = mul_div a b (pos 65536)

abbrev pub div_fix : ℤ → ℤ → ℤ
div_fix a b = mul_div a (pos 65536) b
