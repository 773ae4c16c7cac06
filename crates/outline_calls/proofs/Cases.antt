-- Slots written one after the other are all of them; what is known of slots that are a call's; and the cases of both calls, over plain values. Assumes nothing.
use Rattle.std.specs.Prelude.{Result, Ok, Err, Option, Some, None}
use mathlib.Core.Path.{◌≡◌, refl, ap, sym, ◌∙◌}
use mathlib.Core.Bool.{true, false, ◌&&◌}
use mathlib.Core.List.{List, [], ◌∷◌}
use Prim.Native.Nat.{ℕ}
use native.Mathlib.Omega.{arith}
use borrow.Author.Tests.{eqb-true, eq-eqb, ne_eqb}
use lib.Dec.{eqb, leb}
use lib.Ieee.{Float}
use lib.ListN.{length, set, get_or}
use Rattle.answer.specs.Answer.{number_of}
use Rattle.answer.specs.declared.Refusal.{Refusal}
use Rattle.outline_numbers.proofs.Near.{left_of, right_of}
use Rattle.outline_numbers.specs.declared.Step.{Step}
use Rattle.outline_steps.specs.Outline.{Glyph}
use Rattle.outline_steps.specs.Pen.{begin_of, next_of}
use Rattle.outline_steps.specs.declared.Asked.{Asked}
use Rattle.outline_steps.specs.declared.Pen.{Pen}
use Rattle.outline_calls.specs.Slots.{is_pen, is_call, pen_in, words_of, edges_left, step_number, numbers_of, left, left_by, next_call_of, started, started_by, begin_call_of, bad_word}

-- ---- slots
pub one_set : (l : List ℕ) (n : ℕ) → length l ≡ 1 → set l 0 n ≡ n ∷ []
one_set [] n e = absurd (omega arith)
one_set (a ∷ []) n e = refl
one_set (a ∷ b ∷ l) n e = absurd (omega arith)

pub four_set : (l : List Float) (n p k d : Float) → length l ≡ 4 → set (set (set (set l 0 n) 1 p) 2 k) 3 d ≡ n ∷ p ∷ k ∷ d ∷ []
four_set [] n p k d e = absurd (omega arith)
four_set (a ∷ []) n p k d e = absurd (omega arith)
four_set (a ∷ b ∷ []) n p k d e = absurd (omega arith)
four_set (a ∷ b ∷ c ∷ []) n p k d e = absurd (omega arith)
four_set (a ∷ b ∷ c ∷ x ∷ []) n p k d e = refl
four_set (a ∷ b ∷ c ∷ x ∷ y ∷ l) n p k d e = absurd (omega arith)

pub nine_set : (l : List ℕ) (a b c d e f g h i : ℕ) → length l ≡ 9
    → set (set (set (set (set (set (set (set (set l 0 a) 1 b) 2 c) 3 d) 4 e) 5 f) 6 g) 7 h) 8 i ≡ a ∷ b ∷ c ∷ d ∷ e ∷ f ∷ g ∷ h ∷ i ∷ []
nine_set [] a b c d e f g h i n = absurd (omega arith)
nine_set (p ∷ []) a b c d e f g h i n = absurd (omega arith)
nine_set (p ∷ q ∷ []) a b c d e f g h i n = absurd (omega arith)
nine_set (p ∷ q ∷ r ∷ []) a b c d e f g h i n = absurd (omega arith)
nine_set (p ∷ q ∷ r ∷ s ∷ []) a b c d e f g h i n = absurd (omega arith)
nine_set (p ∷ q ∷ r ∷ s ∷ t ∷ []) a b c d e f g h i n = absurd (omega arith)
nine_set (p ∷ q ∷ r ∷ s ∷ t ∷ u ∷ []) a b c d e f g h i n = absurd (omega arith)
nine_set (p ∷ q ∷ r ∷ s ∷ t ∷ u ∷ v ∷ []) a b c d e f g h i n = absurd (omega arith)
nine_set (p ∷ q ∷ r ∷ s ∷ t ∷ u ∷ v ∷ w ∷ []) a b c d e f g h i n = absurd (omega arith)
nine_set (p ∷ q ∷ r ∷ s ∷ t ∷ u ∷ v ∷ w ∷ x ∷ []) a b c d e f g h i n = refl
nine_set (p ∷ q ∷ r ∷ s ∷ t ∷ u ∷ v ∷ w ∷ x ∷ y ∷ l) a b c d e f g h i n = absurd (omega arith)

-- ---- slots that are a call's
module _ (words : List ℕ) (edges : List Float) (step : List ℕ) (numbers : List Float) (e : is_call words edges step numbers ≡ true) where
  others : eqb (length edges) 4 && (eqb (length step) 1 && eqb (length numbers) 4) ≡ true
  unfolding is_call
  others = right_of (is_pen words) (eqb (length edges) 4 && (eqb (length step) 1 && eqb (length numbers) 4)) e

  behind : eqb (length step) 1 && eqb (length numbers) 4 ≡ true
  behind = right_of (eqb (length edges) 4) (eqb (length step) 1 && eqb (length numbers) 4) others

  pub nine_words : length words ≡ 9
  unfolding is_call is_pen
  nine_words = eqb-true (length words) 9
      (left_of (eqb (length words) 9) (leb (get_or words 6 0) 2 && leb (get_or words 8 0) 1)
      (left_of (is_pen words) (eqb (length edges) 4 && (eqb (length step) 1 && eqb (length numbers) 4)) e))

  pub four_edges : length edges ≡ 4
  four_edges = eqb-true (length edges) 4 (left_of (eqb (length edges) 4) (eqb (length step) 1 && eqb (length numbers) 4) others)

  pub one_step : length step ≡ 1
  one_step = eqb-true (length step) 1 (left_of (eqb (length step) 1) (eqb (length numbers) 4) behind)

  pub four_numbers : length numbers ≡ 4
  four_numbers = eqb-true (length numbers) 4 (right_of (eqb (length step) 1) (eqb (length numbers) 4) behind)

-- ---- what is left
module _ (words : List ℕ) (edges : List Float) (step : List ℕ) (numbers : List Float) where
  abbrev leaves : Asked → Result (Option Step) Refusal → Type 0
  leaves a t = left_by words edges step numbers a.pen t ≡ left_by words edges step numbers a.pen a.told

  told_is : (a : Asked) {t : Result (Option Step) Refusal} → a.told ≡ t → leaves a t
  told_is a e = sym (ap (left_by words edges step numbers a.pen) e)

  pub left_none : (a : Asked) {s : List ℕ} → a.told ≡ Ok None → s ≡ 0 ∷ [] → left 0 words edges s numbers ≡ left_by words edges step numbers a.pen a.told
  left_none a e f = ap (λ (s : List ℕ). left 0 words edges s numbers) f ∙ told_is a e

  pub left_drawn : (a : Asked) {s : Step} {p : List ℕ} {q : List Float} {n : List ℕ} {r : List Float} → a.told ≡ Ok (Some s) → p ≡ words_of a.pen → q ≡ edges_left edges a.pen.bounds
      → n ≡ step_number s ∷ [] → r ≡ numbers_of s → left 0 p q n r ≡ left_by words edges step numbers a.pen a.told
  left_drawn a e f g h k = (λ i. left 0 (f i) (g i) (h i) (k i)) ∙ told_is a e

  pub left_refused : (a : Asked) {why : Refusal} {n : ℕ} → a.told ≡ Err why → n ≡ number_of why → left n words edges step numbers ≡ left_by words edges step numbers a.pen a.told
  left_refused a e f = ap (λ (n : ℕ). left n words edges step numbers) f ∙ told_is a e

  -- ---- the call
  pub called : (g : Glyph) {p : Pen} {a : Asked} {n : ℕ} {w : List ℕ} {q : List Float} {s : List ℕ} {r : List Float} → is_call words edges step numbers ≡ true → p ≡ pen_in words edges → a ≡ next_of g p
      → left n w q s r ≡ left_by words edges step numbers a.pen a.told → left n w q s r ≡ next_call_of g words edges step numbers
  unfolding next_call_of
  called g e f h k =
      let a = h ∙ ap (next_of g) f in
      k ∙ ap (λ (b : Asked). left_by words edges step numbers b.pen b.told) a ∙ sym (rw e)

  pub not_called : (g : Glyph) → is_call words edges step numbers ≡ false → left bad_word words edges step numbers ≡ next_call_of g words edges step numbers
  unfolding next_call_of
  not_called g e = sym (rw e)

-- ---- the start
module _ (g : Glyph) (words : List ℕ) where
  pub starts : {b : Result Pen Refusal} {p : Pen} {w : List ℕ} → length words ≡ 9 → b ≡ begin_of g → b ≡ Ok p → w ≡ words_of p → started 0 w ≡ begin_call_of g words
  unfolding begin_call_of
  starts n e f h = ap (started 0) h ∙ sym (ap (started_by words) (sym e ∙ f)) ∙ sym (rw (eq-eqb (length words) 9 n))

  pub refuses : {b : Result Pen Refusal} {why : Refusal} {n : ℕ} → length words ≡ 9 → b ≡ begin_of g → b ≡ Err why → n ≡ number_of why → started n words ≡ begin_call_of g words
  unfolding begin_call_of
  refuses n e f h = ap (λ (k : ℕ). started k words) h ∙ sym (ap (started_by words) (sym e ∙ f)) ∙ sym (rw (eq-eqb (length words) 9 n))

  pub no_pen : (length words ≡ 9 → ⊥) → started bad_word words ≡ begin_call_of g words
  unfolding begin_call_of
  no_pen n = sym (rw (ne_eqb (length words) 9 n))
