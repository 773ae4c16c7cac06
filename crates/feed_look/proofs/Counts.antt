-- Whole lines counted from a place on. Assumes nothing.
use mathlib.Core.List.{List}
use mathlib.Core.Path.{◌∙◌, ◌≡◌, ap, refl, subst, sym}
use Prim.Native.Nat.{◌+◌, ◌-◌, ◌<◌, ◌≤◌, suc, zero, ℕ}
use native.Mathlib.Nat.{not-suc-le-zero}
use native.Mathlib.Numerals.{add-one}
use native.Mathlib.Omega.{arith}
use lib.IntN.{ℤ}
use lib.ListN.{drop, length, length-drop, take}
use lib.Seq.{take-length}
use Rattle.feed_look.specs.Look.{look_of}
use Rattle.feed_look.specs.Steps.{Counted, Lines, whole_at, whole_by}
use Rattle.feed_look.specs.declared.Seen.{Seen}
use Rattle.feed_look.specs.declared.Seen.TheVariants.{Bad, Long, Waits, Whole}
use Rattle.feed_look.proofs.Looks.{whole_is}

-- the words from a place on, as a part of a list
pub all_of : (l : List ℤ) (at : ℕ) → take (length l - at) (drop at l) ≡ drop at l
all_of l at = ap (λ (n : ℕ). take n (drop at l)) (sym (length-drop at l)) ∙ take-length (drop at l)

pub seen_at : (sheet : List ℤ) (at : ℕ) {seen s : Seen} → seen ≡ look_of (take (length sheet - at) (drop at sheet)) → seen ≡ s → whole_by s ≡ whole_at sheet at
seen_at sheet at e t = ap whole_by (sym t ∙ e ∙ ap look_of (all_of sheet at))

-- ---- a whole line has words, and they are there
pub is_whole : (s : Seen) → 0 < whole_by s → s ≡ Whole (whole_by s)
unfolding whole_by
is_whole Waits h = absurd (not-suc-le-zero h)
is_whole Bad h = absurd (not-suc-le-zero h)
is_whole Long h = absurd (not-suc-le-zero h)
is_whole (Whole n) h = refl

no_words : (s : Seen) → ((words : ℕ) → s ≡ Whole words → ⊥) → whole_by s ≡ 0
unfolding whole_by
no_words Waits none = refl
no_words Bad none = refl
no_words Long none = refl
no_words (Whole n) none = absurd (none n refl)

-- ---- one line more
further : (sheet : List ℤ) (n at mid : ℕ) → Lines sheet n at mid → 0 < whole_at sheet mid → Lines sheet (suc n) at (mid + whole_at sheet mid)
unfolding Lines
further sheet zero at mid e h = subst (λ (m : ℕ). (0 < whole_at sheet m) × (m + whole_at sheet m ≡ mid + whole_at sheet mid)) (sym e) (h, refl)
further sheet (suc n) at mid l h = (l.0, further sheet n (at + whole_at sheet at) mid l.1 h)

pub record Counting (sheet : List ℤ) (at n end : ℕ) : Type 0 where
  pub lines : Lines sheet n at end
  pub inside : end ≤ length sheet
  pub few : n ≤ end

pub count_start : (sheet : List ℤ) (at : ℕ) → at ≤ length sheet → Counting sheet at 0 at
unfolding Lines
count_start sheet at h = record { lines = refl; inside = h; few = omega arith }

module _ {sheet : List ℤ} {at n end : ℕ} (v : Counting sheet at n end) where
  -- what is seen at the place that was come to
  abbrev here : Seen
  here = look_of (take (length sheet - end) (drop end sheet))

  -- a whole line has words, and they are there
  pub turn_inside : {words : ℕ} → Whole words ≡ here → (0 < words) × (end + words ≤ length sheet)
  turn_inside {words} e =
      let i = whole_is (length (drop end sheet)) _ _ (sym (e ∙ ap look_of (all_of sheet end))) in
      (omega (arith, i.is), omega (arith, v.inside, i.there, length-drop end sheet))

  pub count_turn : {words : ℕ} → Whole words ≡ here → Counting sheet at (n + 1) (end + words)
  unfolding whole_by
  count_turn {words} e =
      let next : words ≡ whole_at sheet end = seen_at sheet end e refl in
      let some : 0 < whole_at sheet end = omega (arith, (turn_inside e).0, next) in
      record {
        lines = subst (λ (k : ℕ). Lines sheet (n + 1) at (end + k)) (sym next) (subst (λ (m : ℕ). Lines sheet m at (end + whole_at sheet end)) (sym (add-one n)) (further sheet n at end v.lines some));
        inside = (turn_inside e).1;
        few = omega (arith, v.few, (turn_inside e).0);
      }

  pub count_end : {seen : Seen} → seen ≡ here → ((words : ℕ) → seen ≡ Whole words → ⊥) → Counted sheet at n end
  count_end {seen} e none = record { lines = v.lines; inside = v.inside; few = omega (arith, v.few, v.inside); last = sym (seen_at sheet end e refl) ∙ no_words seen none }
