-- What a test of contour ends says of the next end, and of those behind it: over plain lists. Assumes nothing.
use Prim.Native.Nat.{ℕ, suc, zero, ◌+◌, ◌-◌, ◌≤◌, ◌<◌}
use mathlib.Core.Bool.{Bool, ◌&&◌, false, true}
use mathlib.Core.List.{List, [], ◌∷◌}
use mathlib.Core.Path.{◌≡◌, ap, refl, subst, sym, ◌∙◌}
use native.Mathlib.Nat.{le_of_suc-le-suc, not-suc-le-zero}
use native.Mathlib.Numerals.{add-one}
use native.Mathlib.Omega.{arith}
use borrow.Author.Tests.{leb-true, lt-ltb, ltb-true}
use lib.Dec.{leb, leb-zero, ltb}
use lib.ListN.{drop, drop_of_length-le, get_or, length}
use lib.Seq.{drop-cons}
use Rattle.contour_ends.specs.Ends.{rising_from}

both_left : (s t : Bool) → s && t ≡ true → s ≡ true
both_left true t e = refl
both_left false t e = cc e

both_right : (s t : Bool) → s && t ≡ true → t ≡ true
both_right true t e = e
both_right false t e = cc e

-- ---- the ends from k on, where there is one
module _ (least n : ℕ) (ends : List ℕ) (k : ℕ) (h : k < length ends) {end : ℕ} (is : end ≡ get_or ends k 0) where
  next_is : rising_from least n (drop k ends) ≡ leb least end && (ltb end n && rising_from (suc end) n (drop (k + 1) ends))
  unfolding rising_from
  next_is = rw (drop-cons ends k 0 h, add-one k, is)

  -- ---- what a test that was passed says
  pub in_order : rising_from least n (drop k ends) ≡ true → (least ≤ end) × (end < n) × (rising_from (end + 1) n (drop (k + 1) ends) ≡ true)
  in_order e =
      let both = sym next_is ∙ e in
      let rest = both_right (leb least end) _ both in
      (leb-true least end (both_left (leb least end) _ both), ltb-true end n (both_left (ltb end n) _ rest), ap (λ (i : ℕ). rising_from i n (drop (k + 1) ends)) (add-one end) ∙ both_right (ltb end n) _ rest)

-- ---- none is left
pub all_rise : (least n : ℕ) (ends : List ℕ) (k : ℕ) → length ends ≤ k → true ≡ rising_from least n (drop k ends)
unfolding rising_from
all_rise least n ends k h = sym (ap (rising_from least n) (drop_of_length-le ends {i = k} h))

-- ---- every end lies below n
pub each_below : (least n : ℕ) (ends : List ℕ) → rising_from least n ends ≡ true → (k : ℕ) → k < length ends → get_or ends k 0 < n
unfolding rising_from
each_below least n [] e k h = absurd (not-suc-le-zero h)
each_below least n (end ∷ ends) e zero h = ltb-true end n (both_left (ltb end n) _ (both_right (leb least end) _ e))
each_below least n (end ∷ ends) e (suc k) h = each_below (suc end) n ends (both_right (ltb end n) _ (both_right (leb least end) _ e)) k (le_of_suc-le-suc h)

pub one_high : (least n : ℕ) (ends : List ℕ) (k : ℕ) → k < length ends → n ≤ get_or ends k 0 → false ≡ rising_from least n ends
one_high least n ends k h g = by (rising_from least n ends) (λ e. each_below least n ends e k h)
  where
    by : (r : Bool) → (r ≡ true → get_or ends k 0 < n) → false ≡ r
    by false f = refl
    by true f = absurd (omega (arith, g, f refl))

-- ---- each end above the one before, whatever the number of points
unfoldable pub pairs_from : ℕ → List ℕ → Bool
pairs_from least [] = true
pairs_from least (end ∷ ends) = leb least end && pairs_from (suc end) ends

-- a test that follows from another changes nothing beside it
beside : (r t : Bool) → (r ≡ true → t ≡ true) → r ≡ t && r
beside true t h = rw (h refl) refl
beside false true h = refl
beside false false h = refl

-- where the last end lies below n, all do that are in order
between : (a b n : ℕ) → suc a ≤ b → b < n → a < n
between a b n p q = omega (arith, p, q)

by_pairs : (least n end : ℕ) (ends : List ℕ) → get_or (end ∷ ends) (length ends) 0 < n → pairs_from least (end ∷ ends) ≡ rising_from least n (end ∷ ends)
unfolding pairs_from rising_from
by_pairs least n end [] h = rw (lt-ltb end n h) refl
by_pairs least n end (e ∷ es) h = ap (λ (t : Bool). leb least end && t) (by_pairs (suc end) n e es h ∙ beside (rising_from (suc end) n (e ∷ es)) (ltb end n) below)
  where
    below : rising_from (suc end) n (e ∷ es) ≡ true → ltb end n ≡ true
    below r = lt-ltb end n (between end e n (leb-true (suc end) e (both_left (leb (suc end) e) _ r)) (ltb-true e n (both_left (ltb e n) _ (both_right (leb (suc end) e) _ r))))

less_one : (m : ℕ) → suc m - 1 ≡ m
less_one m = omega arith

pub first_pair : (n : ℕ) (ends : List ℕ) → 0 < length ends → get_or ends (length ends - 1) 0 < n → pairs_from (suc (get_or ends 0 0)) (drop 1 ends) ≡ rising_from 0 n ends
unfolding pairs_from
first_pair n [] h g = absurd (not-suc-le-zero h)
first_pair n (e ∷ es) h g = sym (rw (leb-zero e)) ∙ by_pairs 0 n e es (subst (λ (k : ℕ). get_or (e ∷ es) k 0 < n) (less_one (length es)) g)

module _ (ends : List ℕ) (k : ℕ) (rise : Bool) where
  pub next_pair : k < length ends → (rise && ltb (get_or ends (k - 1) 0) (get_or ends k 0)) && pairs_from (suc (get_or ends (k + 1 - 1) 0)) (drop (k + 1) ends) ≡ rise && pairs_from (suc (get_or ends (k - 1) 0)) (drop k ends)
  unfolding pairs_from
  next_pair h = rw (drop-cons ends k 0 h, add-one k, less_one k) (in_turn rise _ _)
    where
      in_turn : (r s t : Bool) → (r && s) && t ≡ r && (s && t)
      in_turn true s t = refl
      in_turn false s t = refl

  pub no_pair : (least : ℕ) → length ends ≤ k → rise ≡ rise && pairs_from least (drop k ends)
  unfolding pairs_from
  no_pair least h = rw (drop_of_length-le ends {i = k} h) (alone rise)
    where
      alone : (r : Bool) → r ≡ r && true
      alone true = refl
      alone false = refl
