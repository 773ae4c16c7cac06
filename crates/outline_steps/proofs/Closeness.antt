-- What is known where all coordinates are close: over plain lists. Assumes nothing.
use Prim.Native.Nat.{ℕ, suc, zero, ◌+◌, ◌-◌, ◌≤◌, ◌<◌, ◌^◌}
use mathlib.Core.Bool.{Bool, cond, false, true}
use mathlib.Core.List.{List, [], ◌∷◌}
use mathlib.Core.Path.{◌≡◌, refl}
use native.Mathlib.Omega.{arith}
use borrow.Author.Tests.{leb-true, ltb-true}
use lib.Dec.{leb, ltb}
use lib.IntN.{ℤ, pos, negsuc, nat_abs, sub_ℕ, ◌+ℤ◌}
use lib.ListN.{get_or}
use Rattle.outline_numbers.specs.Drawing.{near}
use Rattle.outline_numbers.proofs.Near.{left_of, right_of, small_near}
use Rattle.outline_steps.specs.Outline.{is_close, all_close, midway}

pub close_at : (l : List ℤ) → all_close l ≡ true → (i : ℕ) → is_close (get_or l i (pos 0)) ≡ true
unfolding all_close
close_at [] e i = refl
close_at (z ∷ l) e zero = left_of (is_close z) (all_close l) e
close_at (z ∷ l) e (suc i) = close_at l (right_of (is_close z) (all_close l) e) i

close_small : (z : ℤ) → is_close z ≡ true → nat_abs z ≤ 2 ^ 22
close_small (pos n) h = omega (arith, leb-true n 4194304 h)
close_small (negsuc n) h = omega (arith, leb-true n 4194303 (left_of (leb n 4194303) true h))

apart : (m n : ℕ) → nat_abs (sub_ℕ m n) ≤ m + n
apart m n = go (ltb m n) (ltb-true m n)
  where
    go : (t : Bool) → (t ≡ true → m < n) → nat_abs (cond t (negsuc (n - suc m)) (pos (m - n))) ≤ m + n
    go true h = let l = h refl in omega arith
    go false h = omega arith

sum_small : (a b : ℤ) → nat_abs a ≤ 2 ^ 22 → nat_abs b ≤ 2 ^ 22 → nat_abs (a +ℤ b) ≤ 2 ^ 23
sum_small (pos a) (pos b) h k = omega arith
sum_small (pos a) (negsuc b) h k = omega (arith, apart a (suc b))
sum_small (negsuc a) (pos b) h k = omega (arith, apart b (suc a))
sum_small (negsuc a) (negsuc b) h k = omega arith

pub midway_near : (l : List ℤ) → all_close l ≡ true → (a b : ℕ) → near (midway l a b) ≡ true
midway_near l e a b =
    let x = get_or l a (pos 0) in let y = get_or l b (pos 0) in
    small_near (x +ℤ y) (sum_small x y (close_small x (close_at l e a)) (close_small y (close_at l e b)))
