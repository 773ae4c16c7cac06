-- Where two lines meet: the OpenType instruction ISECT, and FreeType 2.13.3, ttinterp.c (Ins_ISECT), on words that wrap as docs/src has it: every sum,
-- difference, negation, absolute value and product by 19 wraps at 32 bits. So the test below can pass with discriminant 0, when the dot product's
-- absolute value stays -2 ^ 31, and `mul_div` then divides by 0 as it does. Where a C long has 64 bits FreeType's sums and products don't wrap.
-- Assumes nothing.
use Rattle.std.specs.Prelude.{Bool, cond, ℤ, pos}
use Rattle.std.specs.Int.Signed.{lt_z}
use Rattle.int.specs.Word.{add32, sub32, neg32, abs32, mul32, quot32}
use Rattle.math.specs.Fixed.{mul_div}
use Rattle.graphics.specs.declared.Vector.{Vector}

abbrev pub from_to : Vector → Vector → Vector
from_to p q = record { x = sub32 q.x p.x; y = sub32 q.y p.y }

-- products of 26.6 numbers, in 26.6
unfoldable pub cross_of : Vector → Vector → ℤ
cross_of u v = add32 (mul_div u.x (neg32 v.y) (pos 0x40)) (mul_div u.y v.x (pos 0x40))

unfoldable pub dot_of : Vector → Vector → ℤ
dot_of u v = add32 (mul_div u.x v.x (pos 0x40)) (mul_div u.y v.y (pos 0x40))

-- whether the lines meet at more than about 3 degrees: 19 |sine| > |cosine|
unfoldable pub meet : ℤ → ℤ → Bool
meet discriminant dotproduct = lt_z (abs32 dotproduct) (mul32 (abs32 discriminant) (pos 19))

-- a place on a line that starts at p and goes along d: p + d v / discriminant, on each axis
unfoldable pub moved_of : ℤ → ℤ → ℤ → ℤ → ℤ
moved_of at d v discriminant = add32 at (mul_div v d discriminant)

abbrev pub on_line : Vector → Vector → ℤ → ℤ → Vector
on_line p d v discriminant = record { x = moved_of p.x d.x v discriminant; y = moved_of p.y d.y v discriminant }

-- the middle of four numbers, toward zero
unfoldable pub middle_by : ℤ → ℤ → ℤ → ℤ → ℤ
middle_by a b c d = quot32 (add32 (add32 (add32 a b) c) d) (pos 4)

abbrev pub middle_of : Vector → Vector → Vector → Vector → Vector
middle_of a b c d = record { x = middle_by a.x b.x c.x d.x; y = middle_by a.y b.y c.y d.y }

-- where the line from a0 to a1 meets that from b0 to b1
unfoldable pub crossing_of : Vector → Vector → Vector → Vector → Vector
crossing_of a0 a1 b0 b1 =
    cond (meet (cross_of (from_to a0 a1) (from_to b0 b1)) (dot_of (from_to a0 a1) (from_to b0 b1)))
    (on_line a0 (from_to a0 a1) (cross_of (from_to a0 b0) (from_to b0 b1)) (cross_of (from_to a0 a1) (from_to b0 b1)))
    (middle_of a0 a1 b0 b1)
