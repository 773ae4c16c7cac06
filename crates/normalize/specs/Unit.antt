-- The unit vector along two numbers, a 2.14 vector. From FreeType 2.13.3: ftcalc.c (FT_Vector_NormLen: the estimate, the shift, Newton's steps) and
-- ttinterp.c (Normalize, which takes a quarter of its 16.16 numbers), at 32 bits, where sums, products and negations wrap. Of (0, 0) FreeType's Normalize
-- sets nothing; the Rust's normalize14 gives (0, 0), and so does this. Assumes nothing.
use Rattle.std.specs.Prelude.{ℕ, zero, suc, ◌+◌, ◌-◌, ◌*◌, ◌/◌, ◌^◌, Bool, cond, ◌||◌, ltb, leb, ℤ, pos, negsuc, nat_abs}
use Rattle.std.specs.Int.Count.{count_leading_zeros}
use Rattle.std.specs.Int.Signed.{lt_z, shr_z}
use Rattle.int.specs.Word.{wrap32, add32, sub32, neg32, mul32, quot32, eq_z}
use Rattle.graphics.specs.declared.Vector.{Vector}
use Rattle.normalize.specs.declared.Start.{Start}

-- ---- before Newton's steps: lengths of 2/3 to 4/3 of 65,536
-- the larger number and half of the other
unfoldable pub estimate : ℕ → ℕ → ℕ
estimate x y = cond (ltb y x) (x + y / 2) (y + x / 2)

-- FreeType's shift is `zeros l - past l`: up where it is above 0, down where it is below; 0xAAAAAAAA is 2/3 of 2 ^ 32
unfoldable pub zeros : ℕ → ℕ
zeros l = count_leading_zeros 32 l

unfoldable pub past : ℕ → ℕ → ℕ
past z l = cond (leb (0xAAAAAAAA / 2 ^ z) l) 16 15

unfoldable pub shifted : ℕ → ℕ → ℕ → ℕ
shifted up down n = n * 2 ^ up / 2 ^ down

-- the estimate moved, and made anew where the numbers moved up
unfoldable pub near_length : ℕ → ℕ → ℕ → ℕ → ℕ → ℕ
near_length up down l x y = cond (ltb 0 up) (estimate x y) (shifted up down l)

-- both numbers moved, and 1 less the length's estimate, which is the first guess at what the reciprocal length has beyond 1
unfoldable pub start_at : ℕ → ℕ → ℕ → ℕ → ℕ → Start
start_at up down l x y = record {
  x = wrap32 (pos (shifted up down x));
  y = wrap32 (pos (shifted up down y));
  b = sub32 (pos 65536) (wrap32 (pos (near_length up down l (shifted up down x) (shifted up down y))));
}

unfoldable pub start_by : ℕ → ℕ → ℕ → ℕ → Start
start_by z l x y = start_at (z - past z l) (past z l - z) l x y

unfoldable pub start_of : ℕ → ℕ → Start
start_of x y = start_by (zeros (estimate x y)) (estimate x y) x y

-- ---- Newton's steps
-- n (1 + b)
unfoldable pub grown : ℤ → ℤ → ℤ
grown b n = add32 n (shr_z (mul32 n b) 65536)

-- what the squared length lacks of 2 ^ 32: read modulo 2 ^ 32, as signed
unfoldable pub lacking : ℤ → ℤ → ℤ
lacking u v = quot32 (neg32 (add32 (mul32 u u) (mul32 v v))) (pos 512)

unfoldable pub correction : ℤ → ℤ → ℤ → ℤ
correction x y b = quot32 (mul32 (lacking (grown b x) (grown b y)) (shr_z (add32 (pos 65536) b) 256)) (pos 65536)

-- b corrected as long as the correction is above 0, in no more steps than are given
unfoldable pub settled : ℕ → ℤ → ℤ → ℤ → ℤ
settled zero x y b = b
settled (suc n) x y b = cond (lt_z (pos 0) (correction x y b)) (settled n x y (add32 b (correction x y b))) b

-- the steps that are given: never as many are made (proofs/Settles.antt)
abbrev pub rounds : ℕ
rounds = 131072

-- ---- the vector
-- a quarter, with the sign
unfoldable pub component : Bool → ℤ → ℤ
component below w = quot32 (cond below (neg32 w) w) (pos 4)

unfoldable pub aimed : ℤ → ℤ → ℤ → Start → Vector
aimed b x y s = record { x = component (lt_z x (pos 0)) (grown b s.x); y = component (lt_z y (pos 0)) (grown b s.y) }

unfoldable pub aimed_from : ℤ → ℤ → Start → Vector
aimed_from x y s = aimed (settled rounds s.x s.y s.b) x y s

-- 1 with the number's sign, and 0 of 0
abbrev pub unit_by : ℤ → ℤ
unit_by (pos zero) = pos 0
unit_by (pos (suc n)) = pos 16384
unit_by (negsuc n) = negsuc 16383

unfoldable pub unit_of : ℤ → ℤ → Vector
unit_of x y = cond (eq_z x (pos 0) || eq_z y (pos 0)) (record { x = unit_by x; y = unit_by y }) (aimed_from x y (start_of (nat_abs x) (nat_abs y)))
