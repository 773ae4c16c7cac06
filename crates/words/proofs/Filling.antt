-- A loop that writes a list from the front: the first elements are the new list's, the others as they were. Assumes nothing.
use Rattle.std.proofs.Common.{◌≡◌, ℕ, zero, suc, ◌+◌, ◌<◌, ◌≤◌, List, [], ◌∷◌, ◌++◌, length, get_or, take, drop, set, sym, refl, ap, ◌∙◌, ap₂, append-nil, add-one, arith, length-set, drop_of_length-le, take_all}

module _ {A : Type 0} where
  -- the first k of r, and the others of l
  abbrev pub filled : ℕ → List A → List A → List A
  filled k r l = take k r ++ drop k l

  filled_turn : (d : A) (k : ℕ) (r l : List A) → length r ≡ length l → k < length l → set (filled k r l) k (get_or r k d) ≡ filled (suc k) r l
  filled_turn d zero [] [] e h = absurd (omega arith)
  filled_turn d zero [] (y ∷ l) e h = absurd (omega arith)
  filled_turn d zero (x ∷ r) [] e h = absurd (omega arith)
  filled_turn d zero (x ∷ r) (y ∷ l) e h = refl
  filled_turn d (suc k) [] [] e h = absurd (omega arith)
  filled_turn d (suc k) [] (y ∷ l) e h = absurd (omega arith)
  filled_turn d (suc k) (x ∷ r) [] e h = absurd (omega arith)
  filled_turn d (suc k) (x ∷ r) (y ∷ l) e h = ap (λ (t : List A). x ∷ t) (filled_turn d k r l (omega arith) (omega arith))

  -- l is l₀ with its first k elements replaced by r's
  pub record Filling (r l₀ l : List A) (k : ℕ) : Type 0 where
    pub so_far : l ≡ filled k r l₀
    pub whole : length r ≡ length l₀
    pub size : length l ≡ length l₀

  pub turn : {r l₀ l : List A} {k : ℕ} {w : A} (d : A) → Filling r l₀ l k → k < length l → w ≡ get_or r k d → Filling r l₀ (set l k w) (k + 1)
  turn {r} {l₀} {l} {k} {w} d v h e =
      record {
        so_far =
            ap₂ (λ (m : List A) (x : A). set m k x) v.so_far e
            ∙ filled_turn d k r l₀ v.whole (omega (arith, v.size))
            ∙ ap (λ (j : ℕ). filled j r l₀) (sym (add-one k));
        whole = v.whole;
        size = length-set l k w ∙ v.size;
      }

  pub full : {r l₀ l : List A} {k : ℕ} → Filling r l₀ l k → length l ≤ k → l ≡ r
  full {r} {l₀} {l} {k} v h =
      v.so_far
      ∙ ap₂ (λ (a b : List A). a ++ b) (take_all k r (omega (arith, v.whole, v.size))) (drop_of_length-le l₀ {i = k} (omega (arith, v.size)))
      ∙ append-nil r
