-- A loop that writes a list from the front: after i turns its first i elements are those of the result, and the others are as they were.
-- Assumes nothing.
use mathlib.Core.Path.{◌≡◌, refl, sym, ap, ap₂, ◌∙◌}
use mathlib.Core.List.{List, [], ◌∷◌, ◌++◌, map, append-nil}
use Prim.Native.Nat.{ℕ, zero, suc, ◌+◌, ◌≤◌, ◌<◌}
use native.Mathlib.Omega.{arith}
use native.Mathlib.Numerals.{add-one}
use lib.IntN.{ℤ, pos}
use lib.ListN.{length, take, drop, get_or, set, length-set, drop_of_length-le}
use lib.Seq.{take_all}
use Rattle.iup.specs.Parts.{both}

-- the first i elements of r, and the others of l
abbrev pub filled : {A : Type 0} → ℕ → List A → List A → List A
filled i r l = take i r ++ drop i l

filled_length : {A : Type 0} (i : ℕ) (r l : List A) → length r ≡ length l → length (filled i r l) ≡ length l
filled_length zero r l e = refl
filled_length (suc i) [] [] e = refl
filled_length (suc i) [] (y ∷ l) e = absurd (omega arith)
filled_length (suc i) (x ∷ r) [] e = absurd (omega arith)
filled_length (suc i) (x ∷ r) (y ∷ l) e = ap suc (filled_length i r l (omega arith))

filled_turn : {A : Type 0} (i : ℕ) (r l : List A) (d : A) → length r ≡ length l → i < length l → set (filled i r l) i (get_or r i d) ≡ filled (suc i) r l
filled_turn zero [] [] d e h = absurd (omega arith)
filled_turn zero [] (y ∷ l) d e h = absurd (omega arith)
filled_turn zero (x ∷ r) [] d e h = absurd (omega arith)
filled_turn zero (x ∷ r) (y ∷ l) d e h = refl
filled_turn (suc i) [] [] d e h = absurd (omega arith)
filled_turn (suc i) [] (y ∷ l) d e h = absurd (omega arith)
filled_turn (suc i) (x ∷ r) [] d e h = absurd (omega arith)
filled_turn {A} (suc i) (x ∷ r) (y ∷ l) d e h = ap (λ (t : List A). x ∷ t) (filled_turn i r l d (omega arith) (omega arith))

-- l is l₀ with its first i elements replaced by r's
pub record Filling (r l₀ l : List ℤ) (i : ℕ) : Type 0 where
  pub so_far : l ≡ filled i r l₀
  pub whole : length r ≡ length l₀
  pub size : length l ≡ length l₀

pub start : (r l : List ℤ) → length r ≡ length l → Filling r l l 0
start r l e = record { so_far = refl; whole = e; size = refl }

pub turn : {r l₀ l : List ℤ} {i : ℕ} {y : ℤ} → Filling r l₀ l i → i < length l → y ≡ get_or r i (pos 0) → Filling r l₀ (set l i y) (i + 1)
turn {r} {l₀} {l} {i} {y} v h e =
    record {
      so_far =
          ap₂ (λ (k : List ℤ) (x : ℤ). set k i x) v.so_far e
          ∙ filled_turn i r l₀ (pos 0) v.whole (omega (arith, v.size))
          ∙ ap (λ (k : ℕ). filled k r l₀) (sym (add-one i));
      whole = v.whole;
      size = length-set l i y ∙ v.size;
    }

pub full : {r l₀ l : List ℤ} {i : ℕ} → Filling r l₀ l i → length l ≤ i → l ≡ r
full {r} {l₀} {l} {i} v h =
    v.so_far
    ∙ ap₂ (λ (a b : List ℤ). a ++ b) (take_all i r (omega (arith, v.whole, v.size))) (drop_of_length-le l₀ {i = i} (omega (arith, v.size)))
    ∙ append-nil r

-- ---- the results of the two loops
pub get_d_map : {A B : Type 0} (f : A → B) (l : List A) (i : ℕ) (a : A) (b : B) → i < length l → get_or (map f l) i b ≡ f (get_or l i a)
get_d_map f [] i a b h = absurd (omega arith)
get_d_map f (x ∷ l) zero a b h = refl
get_d_map f (x ∷ l) (suc i) a b h = get_d_map f l i a b (omega arith)

pub both_length : (f : ℤ → ℤ → ℤ) (us os : List ℤ) → length us ≡ length os → length (both f us os) ≡ length os
both_length f [] [] e = refl
both_length f [] (o ∷ os) e = absurd (omega arith)
both_length f (u ∷ us) [] e = absurd (omega arith)
both_length f (u ∷ us) (o ∷ os) e = ap suc (both_length f us os (omega arith))

pub get_d_both : (f : ℤ → ℤ → ℤ) (us os : List ℤ) (i : ℕ) → i < length us → i < length os → get_or (both f us os) i (pos 0) ≡ f (get_or us i (pos 0)) (get_or os i (pos 0))
get_d_both f [] os i h g = absurd (omega arith)
get_d_both f (u ∷ us) [] i h g = absurd (omega arith)
get_d_both f (u ∷ us) (o ∷ os) zero h g = refl
get_d_both f (u ∷ us) (o ∷ os) (suc i) h g = get_d_both f us os i (omega arith) (omega arith)

pub both_none : (f : ℤ → ℤ → ℤ) (us os l : List ℤ) → length us ≡ length l → length l ≤ 0 → l ≡ both f us os
both_none f [] os [] e h = refl
both_none f [] os (x ∷ l) e h = absurd (omega arith)
both_none f (u ∷ us) os [] e h = absurd (omega arith)
both_none f (u ∷ us) os (x ∷ l) e h = absurd (omega arith)
