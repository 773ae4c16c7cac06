-- Laws that the promise on two runs cites. Along an axis a distance is the difference of that coordinate, so it reads no other; vectors on an
-- axis have literals for their axes and fdotp. Besides, fdotp is never too small to divide by, and on vectors in range nothing wraps in it, so
-- it is the number that FreeType's C long holds. Assumes nothing.
use mathlib.Core.Path.{◌≡◌, refl, ap, ap₂, ◌∙◌}
use mathlib.Core.Bool.{Bool, true, false, cond}
use Prim.Native.Nat.{◌*◌, ◌≤◌}
use native.Mathlib.Omega.{arith}
use native.Mathlib.Nat.{le_trans, mul-le-mul}
use borrow.Author.Tests.{leb-true}
use lib.Dec.{leb}
use lib.IntN.{ℤ, pos, negsuc, nat_abs, ◌+ℤ◌, ◌*ℤ◌}
use lib.Signed.{mag, lt_z}
use Rattle.int.specs.Word.{wrap32, add32, sub32, abs32, mul32, eq_z}
use Rattle.int.proofs.Ints.{mag_add, mag_mul}
use Rattle.int.proofs.Wraps.{wrap_id}
use Rattle.flags.specs.declared.CoordAxis.TheVariants.{X, Y}
use Rattle.graphics.specs.State.{unit, x_axis, y_axis, all_along, in_range, vector_in_range}
use Rattle.graphics.proofs.Laws.{and_left, x_of, y_of}
use Rattle.graphics.specs.declared.Vector.{Vector}
use Rattle.projection.specs.declared.Derived.{Derived}
use Rattle.projection.specs.Projection.{axis_of, raw_fdotp, not_small, freedom_axis_by, derived_of, along_of}

-- ---- along an axis
module _ (v a b : Vector) where
  pub along_x : axis_of v ≡ X → along_of v a b ≡ sub32 a.x b.x
  unfolding along_of
  along_x e = rw e

  pub along_y : axis_of v ≡ Y → along_of v a b ≡ sub32 a.y b.y
  unfolding along_of
  along_y e = rw e

-- ---- which vectors lie on an axis
pub axis_x : (v : Vector) → v.x ≡ unit → axis_of v ≡ X
unfolding axis_of
axis_x v e = let t : eq_z v.x unit ≡ true = ap (λ (z : ℤ). eq_z z unit) e in rw t

pub axis_y : (v : Vector) → eq_z v.x unit ≡ false → v.y ≡ unit → axis_of v ≡ Y
unfolding axis_of
axis_y v n e = let t : eq_z v.y unit ≡ true = ap (λ (z : ℤ). eq_z z unit) e in rw (n, t)

pub along_x_axis : (a b : Vector) → along_of x_axis a b ≡ sub32 a.x b.x
along_x_axis a b = along_x x_axis a b (axis_x x_axis refl)

pub along_y_axis : (a b : Vector) → along_of y_axis a b ≡ sub32 a.y b.y
along_y_axis a b = along_y y_axis a b (axis_y y_axis refl refl)

-- ---- all three vectors on one axis
pub x_derived : derived_of (all_along x_axis) ≡ record { projection_axis = X; dual_axis = X; freedom_axis = X; fdotp = unit }
unfolding axis_of raw_fdotp not_small freedom_axis_by abs32 wrap32
x_derived = refl

pub y_derived : derived_of (all_along y_axis) ≡ record { projection_axis = Y; dual_axis = Y; freedom_axis = Y; fdotp = unit }
unfolding axis_of raw_fdotp not_small freedom_axis_by abs32 wrap32
y_derived = refl

-- ---- fdotp is divided by
large_by : (raw : ℤ) (small : Bool) → lt_z (abs32 raw) (pos 0x400) ≡ small → lt_z (abs32 (cond small unit raw)) (pos 0x400) ≡ false
unfolding abs32 wrap32
large_by raw true e = refl
large_by raw false e = e

pub never_small : (raw : ℤ) → lt_z (abs32 (not_small raw)) (pos 0x400) ≡ false
unfolding not_small
never_small raw = large_by raw _ refl

-- ---- on vectors in range nothing wraps in fdotp
size : (z : ℤ) → in_range z ≡ true → nat_abs z ≤ 16384
size (pos n) e = leb-true n 16384 e
size (negsuc n) e = omega (arith, leb-true n 16383 (and_left (leb n 16383) true e))

product_size : (a b : ℤ) → in_range a ≡ true → in_range b ≡ true → mag (a *ℤ b) ≤ 16384 * 16384
product_size a b p q = le_trans (mag_mul a b) (mul-le-mul (size a p) (size b q))

product_exact : (a b : ℤ) → in_range a ≡ true → in_range b ≡ true → mul32 a b ≡ a *ℤ b
unfolding mul32
product_exact a b p q = wrap_id (a *ℤ b) (record { sfits = omega (arith, product_size a b p q) })

sum_exact : (y z : ℤ) → mag y ≤ 16384 * 16384 → mag z ≤ 16384 * 16384 → add32 y z ≡ y +ℤ z
unfolding add32
sum_exact y z p q = wrap_id (y +ℤ z) (record { sfits = omega (arith, mag_add y z) })

module _ (p f : Vector) (hp : vector_in_range p ≡ true) (hf : vector_in_range f ≡ true) where
  pub fdotp_exact : add32 (mul32 p.x f.x) (mul32 p.y f.y) ≡ p.x *ℤ f.x +ℤ p.y *ℤ f.y
  fdotp_exact =
      ap₂ add32 (product_exact p.x f.x (x_of p hp) (x_of f hf)) (product_exact p.y f.y (y_of p hp) (y_of f hf))
      ∙ sum_exact (p.x *ℤ f.x) (p.y *ℤ f.y) (product_size p.x f.x (x_of p hp) (x_of f hf)) (product_size p.y f.y (y_of p hp) (y_of f hf))
