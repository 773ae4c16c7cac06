-- The counts of a layout by the lists' numbers, and the places as sums of them. Assumes nothing.
use mathlib.Core.Bool.{Bool, cond, false, true}
use mathlib.Core.Path.{◌∙◌, ◌≡◌, ap, ap₂, refl, sym}
use Prim.Native.Nat.{◌*◌, ◌+◌, ◌-◌, ◌<◌, ◌≤◌, ◌^◌, suc, zero, ℕ}
use native.Mathlib.Numerals.{add-one}
use native.Mathlib.Omega.{arith}
use borrow.Author.Tests.{leb-false, leb-true}
use lib.Dec.{leb}
use lib.ListN.{get_or-eq_default}
use Rattle.record_layout.specs.Order.{count_of, counts, list_place}
use Rattle.record_layout.specs.Steps.{capped}
use Rattle.record_layout.specs.declared.Layout.{Layout}

-- ---- how many words a list has
module _ (l : Layout) where
  pub glyph_count : (k : ℕ) → k < 7 → l.points ≡ count_of l k
  glyph_count zero h = refl
  glyph_count (suc zero) h = refl
  glyph_count (suc (suc zero)) h = refl
  glyph_count (suc (suc (suc zero))) h = refl
  glyph_count (suc (suc (suc (suc zero)))) h = refl
  glyph_count (suc (suc (suc (suc (suc zero))))) h = refl
  glyph_count (suc (suc (suc (suc (suc (suc zero)))))) h = refl
  glyph_count (suc (suc (suc (suc (suc (suc (suc k))))))) h = absurd (omega arith)

  pub contour_count : (k : ℕ) → 7 ≤ k → k < 8 → l.contours ≡ count_of l k
  contour_count k g h = let e : 7 ≡ k = omega arith in ap (count_of l) e

  behind_contours : (j : ℕ) → j < 5 → l.twilight ≡ count_of l (8 + j)
  behind_contours zero h = refl
  behind_contours (suc zero) h = refl
  behind_contours (suc (suc zero)) h = refl
  behind_contours (suc (suc (suc zero))) h = refl
  behind_contours (suc (suc (suc (suc zero)))) h = refl
  behind_contours (suc (suc (suc (suc (suc j))))) h = absurd (omega arith)

  pub twilight_count : (k : ℕ) → 8 ≤ k → k < 13 → l.twilight ≡ count_of l k
  twilight_count k g h = let e : 8 + (k - 8) ≡ k = omega arith in behind_contours (k - 8) (omega arith) ∙ ap (count_of l) e

  pub control_count : (k : ℕ) → 13 ≤ k → k < 14 → l.controls ≡ count_of l k
  control_count k g h = let e : 13 ≡ k = omega arith in ap (count_of l) e

  pub sheet_count : (k : ℕ) → 14 ≤ k → k < 15 → l.words ≡ count_of l k
  sheet_count k g h = let e : 14 ≡ k = omega arith in ap (count_of l) e

  pub no_count : (k : ℕ) → 15 ≤ k → 0 ≡ count_of l k
  no_count k h = sym (get_or-eq_default (counts l) 0 {n = k} h)

  -- ---- behind the last list
  behind : (j : ℕ) → list_place l (15 + j) ≡ list_place l 15
  behind zero = refl
  behind (suc j) =
      let e : 15 + suc j ≡ suc (15 + j) = omega arith in
      let none : 0 ≡ count_of l (15 + j) = no_count (15 + j) (omega arith) in
      ap (list_place l) e ∙ omega (arith, none, behind j)

  by_test : (k : ℕ) (b : Bool) → leb 15 k ≡ b → list_place l (cond b 15 k) ≡ list_place l k
  by_test k true e =
      let h = leb-true 15 k e in
      let g : 15 + (k - 15) ≡ k = omega (arith, h) in
      sym (behind (k - 15)) ∙ ap (list_place l) g
  by_test k false e = refl

  capped_place : (k : ℕ) → list_place l (capped k) ≡ list_place l k
  capped_place k = by_test k (leb 15 k) refl

-- ---- a sum of the counts
-- what is summed up to list i
pub record Summed (l : Layout) (end at i : ℕ) : Type 0 where
  pub place_is : at ≡ list_place l i
  pub small : at < (i + 1) * 2 ^ 32
  pub within : i ≤ end

pub first_place : {l : Layout} {end at : ℕ} → at ≡ l.state → l.state < 2 ^ 32 → Summed l end at 0
first_place e h = record { place_is = e; small = omega arith; within = omega arith }

pub few_lists : (k : ℕ) → capped k ≤ 15
few_lists k = few k (leb 15 k) refl where
  few : (k : ℕ) (b : Bool) → leb 15 k ≡ b → cond b 15 k ≤ 15
  few k true e = omega arith
  few k false e = let h = leb-false 15 k e in omega (arith, h)

pub next_place : {l : Layout} {end at i n : ℕ} → Summed l end at i → i < end → n ≡ count_of l i → n < 2 ^ 32 → Summed l end (at + n) (i + 1)
next_place {l} {end} {at} {i} {n} s h e f =
    record {
      place_is = ap₂ (λ (a b : ℕ). a + b) s.place_is e ∙ ap (list_place l) (sym (add-one i));
      small = omega (arith, s.small);
      within = omega arith;
    }

pub last_place : {l : Layout} {end at i : ℕ} (k : ℕ) → Summed l end at i → end ≤ i → end ≡ capped k → at ≡ list_place l k
last_place {l} {end} {at} {i} k s h e =
    let g : i ≡ end = omega (arith, s.within) in
    s.place_is ∙ ap (list_place l) (g ∙ e) ∙ capped_place l k
