-- What is known of numbers that are near: they are small, and so are the numbers of a near step. Assumes nothing.
use mathlib.Core.Path.{◌≡◌, refl, ap}
use Prim.Native.Nat.{ℕ, suc, ◌≤◌, ◌<◌, ◌^◌}
use mathlib.Core.Bool.{Bool, true, false, ◌&&◌}
use native.Mathlib.Omega.{arith}
use borrow.Author.Tests.{leb-true, le-leb}
use lib.Dec.{leb}
use lib.IntN.{ℤ, pos, negsuc, nat_abs}
use Rattle.outline_numbers.specs.Drawing.{near}

-- ---- both parts of a test
pub left_of : (s t : Bool) → s && t ≡ true → s ≡ true
left_of true t e = refl
left_of false t e = cc e

pub right_of : (s t : Bool) → s && t ≡ true → t ≡ true
right_of true t e = e
right_of false t e = cc e

-- ---- near is small
pub near_small : (z : ℤ) → near z ≡ true → nat_abs z < 2 ^ 24
near_small (pos n) h = omega (arith, leb-true n 8388608 h)
near_small (negsuc n) h = omega (arith, leb-true n 8388607 (left_of (leb n 8388607) true h))

pub small_near : (z : ℤ) → nat_abs z ≤ 2 ^ 23 → near z ≡ true
small_near (pos n) h = le-leb n 8388608 h
small_near (negsuc n) h = ap (λ (t : Bool). t && true) (le-leb n 8388607 (omega arith))
