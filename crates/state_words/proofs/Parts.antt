-- Lists of words: a part within a list. Assumes nothing.
use mathlib.Core.List.{List, [], ◌++◌, ◌∷◌}
use lib.ListN.{get_or-append, drop, get_or, length, take}
use Prim.Native.Nat.{◌+◌, ◌-◌, ◌<◌, ◌≤◌, suc, zero, ℕ}
use mathlib.Core.Path.{◌∙◌, ◌≡◌, ap, refl}
use native.Mathlib.Omega.{arith}
use lib.Dec.{leb}
use mathlib.Core.Bool.{true}
use borrow.Author.Tests.{leb-true}
use Rattle.graphics.proofs.Laws.{and_left, and_right}
use Rattle.words.specs.Lists.{all_at_most}

-- ---- a part within a list
-- what stands after a part is counted from its end
pub past : (a b : List ℕ) (k : ℕ) → length a ≤ k → get_or (a ++ b) k 0 ≡ get_or b (k - length a) 0
past [] b k h = let e : k ≡ k - 0 = omega arith in ap (λ (j : ℕ). get_or b j 0) e
past (x ∷ a) b zero h = absurd (omega arith)
past (x ∷ a) b (suc k) h = let e : k - length a ≡ suc k - suc (length a) = omega arith in past a b k (omega arith) ∙ ap (λ (j : ℕ). get_or b j 0) e

-- the part b, with a before it and r behind
pub in_part : (a b r : List ℕ) (k : ℕ) → length a ≤ k → k - length a < length b → get_or (a ++ (b ++ r)) k 0 ≡ get_or b (k - length a) 0
in_part a b r k h l = past a (b ++ r) k h ∙ get_or-append b r 0 (k - length a) l

-- word j of a part that was cut out
take_nth : (l : List ℕ) (n j : ℕ) → j < n → get_or (take n l) j 0 ≡ get_or l j 0
take_nth l zero j h = absurd (omega arith)
take_nth [] (suc n) j h = refl
take_nth (x ∷ l) (suc n) zero h = refl
take_nth (x ∷ l) (suc n) (suc j) h = take_nth l n j (omega arith)

drop_nth : (l : List ℕ) (k j : ℕ) → get_or (drop k l) j 0 ≡ get_or l (k + j) 0
drop_nth l zero j = let e : j ≡ 0 + j = omega arith in ap (λ (i : ℕ). get_or l i 0) e
drop_nth [] (suc k) j = refl
drop_nth (x ∷ l) (suc k) j = let e : suc (k + j) ≡ suc k + j = omega arith in drop_nth l k j ∙ ap (λ (i : ℕ). get_or (x ∷ l) i 0) e

pub part_nth : (l : List ℕ) (k n j : ℕ) → j < n → get_or (take n (drop k l)) j 0 ≡ get_or l (k + j) 0
part_nth l k n j h = take_nth (drop k l) n j h ∙ drop_nth l k j

-- ---- words that are all at most a number
pub at_most_nth : (most : ℕ) (l : List ℕ) (j : ℕ) → all_at_most most l ≡ true → get_or l j 0 ≤ most
at_most_nth most [] j e = omega arith
at_most_nth most (x ∷ l) zero e = leb-true x most (and_left (leb x most) (all_at_most most l) e)
at_most_nth most (x ∷ l) (suc j) e = at_most_nth most l j (and_right (leb x most) (all_at_most most l) e)
