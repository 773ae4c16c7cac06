-- The search backward for a touched point, step by step: one untouched point less is left; and how far the searches go.
-- Assumes nothing.
use mathlib.Core.Path.{◌≡◌, sym, ap}
use mathlib.Core.Bool.{Bool, true, false}
use mathlib.Core.List.{List, [], ◌∷◌}
use Prim.Native.Nat.{ℕ, zero, suc, ◌+◌, ◌-◌, ◌≤◌, ◌<◌}
use native.Mathlib.Omega.{arith}
use lib.ListN.{length, take, drop, get_or, length-take, length-drop, length-map}
use Rattle.iup.specs.Parts.{marks, ahead, one_more, up_to_last}
use Rattle.flags.specs.Flag.{has_any}

last_hit' : (mask : ℕ) (fs : List ℕ) (m : ℕ) → m < length fs → has_any (get_or fs m 0) mask ≡ true → up_to_last (marks mask (take (suc m) fs)) ≡ suc m
last_hit' mask [] m h t = absurd (omega arith)
last_hit' mask (f ∷ fs) zero h t = rw t
last_hit' mask (f ∷ fs) (suc m) h t = ap (one_more (has_any f mask)) (last_hit' mask fs m (omega arith) t)

last_miss' : (mask : ℕ) (fs : List ℕ) (m : ℕ) → m < length fs → has_any (get_or fs m 0) mask ≡ false → up_to_last (marks mask (take (suc m) fs)) ≡ up_to_last (marks mask (take m fs))
last_miss' mask [] m h t = absurd (omega arith)
last_miss' mask (f ∷ fs) zero h t = rw t
last_miss' mask (f ∷ fs) (suc m) h t = ap (one_more (has_any f mask)) (last_miss' mask fs m (omega arith) t)

-- the last of the first n is touched, or is passed
pub last_hit : (mask : ℕ) (fs : List ℕ) (n : ℕ) → 0 < n → n ≤ length fs → has_any (get_or fs (n - 1) 0) mask ≡ true → n ≡ up_to_last (marks mask (take n fs))
last_hit mask fs zero p h t = absurd (omega arith)
last_hit mask fs (suc m) p h t = let e : suc m - 1 ≡ m = omega arith in sym (last_hit' mask fs m (omega arith) (rw e at t))

pub last_miss : (mask : ℕ) (fs : List ℕ) (n : ℕ) → 0 < n → n ≤ length fs → has_any (get_or fs (n - 1) 0) mask ≡ false → up_to_last (marks mask (take (n - 1) fs)) ≡ up_to_last (marks mask (take n fs))
last_miss mask fs zero p h t = absurd (omega arith)
last_miss mask fs (suc m) p h t = let e : suc m - 1 ≡ m = omega arith in rw e (sym (last_miss' mask fs m (omega arith) (rw e at t)))

ahead_most : (bs : List Bool) → ahead bs ≤ length bs
ahead_most [] = omega arith
ahead_most (true ∷ bs) = omega arith
ahead_most (false ∷ bs) = omega (arith, ahead_most bs)

-- where a search from i ends
pub ahead_le : (mask : ℕ) (fs : List ℕ) (i j : ℕ) → j ≡ i + ahead (marks mask (drop i fs)) → i ≤ length fs → j ≤ length fs
ahead_le mask fs i j e h = omega (arith, ahead_most (marks mask (drop i fs)), length-map (drop i fs) (λ f. has_any f mask), length-drop i fs)

one_more_le : (b : Bool) (k n : ℕ) → k ≤ n → one_more b k ≤ suc n
one_more_le true zero n h = omega arith
one_more_le false zero n h = omega arith
one_more_le b (suc k) n h = omega arith

last_most : (bs : List Bool) → up_to_last bs ≤ length bs
last_most [] = omega arith
last_most (b ∷ bs) = one_more_le b (up_to_last bs) (length bs) (last_most bs)

-- the last touched point of a part stands in it
pub last_le : (mask : ℕ) (fs : List ℕ) (k m : ℕ) → m ≡ up_to_last (marks mask (take k fs)) → m ≤ length fs
last_le mask fs k m e = omega (arith, last_most (marks mask (take k fs)), length-map (take k fs) (λ f. has_any f mask), length-take k fs)
