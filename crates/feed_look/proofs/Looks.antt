-- What words come to, by the tests that were passed and the one that failed; and back. Assumes nothing.
use mathlib.Core.Bool.{Bool, cond, false, true, true≢false}
use mathlib.Core.List.{List, [], ◌++◌, ◌∷◌}
use mathlib.Core.Path.{◌∙◌, ◌≡◌, ap, refl, subst, sym}
use Prim.Native.Nat.{ℕ, suc, ◌+◌, ◌^◌, ◌<◌, ◌≤◌}
use native.Mathlib.Numerals.{add-one}
use native.Mathlib.Omega.{arith}
use borrow.Author.Tests.{eq-eqb, eqb-true, eqb-false, le-ltb, lt-ltb, ltb-false, ltb-true, ne_eqb}
use lib.Dec.{eqb, ltb}
use lib.IntN.{pos, ℤ}
use lib.ListN.{get_or-append, get_or, length, length-append}
use Rattle.int.specs.Word.{index_of}
use Rattle.opcodes.specs.Table.{need_of, unknown}
use Rattle.feed_look.specs.Look.{long_by, look_by, look_of, most_line, most_operands}
use Rattle.feed_look.specs.Steps.{whole_by}
use Rattle.feed_look.specs.declared.Seen.{Seen}
use Rattle.feed_look.specs.declared.Seen.TheVariants.{Bad, Long, Waits, Whole}

-- ---- by the tests
module _ (n op count : ℕ) where
  pub no_word : n < 1 → look_by n op count ≡ Waits
  unfolding look_by
  no_word h = rw (lt-ltb n 1 h)

  module _ (h : 1 ≤ n) where
    pub no_opcode : 255 < op → look_by n op count ≡ Bad
    unfolding look_by
    no_opcode a = rw (le-ltb n 1 h, lt-ltb 255 op a)

    module _ (a : op ≤ 255) where
      pub not_known : need_of op ≡ unknown → look_by n op count ≡ Bad
      unfolding look_by
      not_known b = rw (le-ltb n 1 h, le-ltb 255 op a, eq-eqb (need_of op) unknown b)

      module _ (b : need_of op ≡ unknown → ⊥) where
        pub no_count : n < 2 → look_by n op count ≡ Waits
        unfolding look_by
        no_count c = rw (le-ltb n 1 h, le-ltb 255 op a, ne_eqb (need_of op) unknown b, lt-ltb n 2 c)

        module _ (c : 2 ≤ n) where
          pub too_long : most_operands < count → look_by n op count ≡ long_by count
          unfolding look_by
          too_long d = rw (le-ltb n 1 h, le-ltb 255 op a, ne_eqb (need_of op) unknown b, le-ltb n 2 c, lt-ltb most_operands count d)

          module _ (d : count ≤ most_operands) where
            pub not_all : n < count + 2 → look_by n op count ≡ Waits
            unfolding look_by
            not_all e = rw (le-ltb n 1 h, le-ltb 255 op a, ne_eqb (need_of op) unknown b, le-ltb n 2 c, le-ltb most_operands count d, lt-ltb n (count + 2) e)

            pub all : count + 2 ≤ n → look_by n op count ≡ Whole (count + 2)
            unfolding look_by
            all e = rw (le-ltb n 1 h, le-ltb 255 op a, ne_eqb (need_of op) unknown b, le-ltb n 2 c, le-ltb most_operands count d, le-ltb n (count + 2) e)

-- ---- back: which tests were passed. Every case of the tests, once
pub data Tests (n op count : ℕ) : Type 0 where
  Empty : n < 1 → Tests n op count
  Beyond : 1 ≤ n → 255 < op → Tests n op count
  Strange : 1 ≤ n → op ≤ 255 → need_of op ≡ unknown → Tests n op count
  Single : 1 ≤ n → op ≤ 255 → (need_of op ≡ unknown → ⊥) → n < 2 → Tests n op count
  Longer : op ≤ 255 → (need_of op ≡ unknown → ⊥) → 2 ≤ n → most_operands < count → Tests n op count
  Short : op ≤ 255 → (need_of op ≡ unknown → ⊥) → 2 ≤ n → count ≤ most_operands → n < count + 2 → Tests n op count
  Full : op ≤ 255 → (need_of op ≡ unknown → ⊥) → 2 ≤ n → count ≤ most_operands → count + 2 ≤ n → Tests n op count

either : {A : Type 0} (t : Bool) → (t ≡ true → A) → (t ≡ false → A) → A
either true f g = f refl
either false f g = g refl

pub tests : (n op count : ℕ) → Tests n op count
tests n op count =
    either (ltb n 1) (λ h. Empty (ltb-true n 1 h))
    (λ h. either (ltb 255 op) (λ a. Beyond (ltb-false n 1 h) (ltb-true 255 op a))
    (λ a. either (eqb (need_of op) unknown) (λ b. Strange (ltb-false n 1 h) (ltb-false 255 op a) (eqb-true (need_of op) unknown b))
    (λ b. either (ltb n 2) (λ c. Single (ltb-false n 1 h) (ltb-false 255 op a) (eqb-false (need_of op) unknown b) (ltb-true n 2 c))
    (λ c. either (ltb most_operands count) (λ d. Longer (ltb-false 255 op a) (eqb-false (need_of op) unknown b) (ltb-false n 2 c) (ltb-true most_operands count d))
    (λ d. either (ltb n (count + 2)) (λ e. Short (ltb-false 255 op a) (eqb-false (need_of op) unknown b) (ltb-false n 2 c) (ltb-false most_operands count d) (ltb-true n (count + 2) e))
    (λ e. Full (ltb-false 255 op a) (eqb-false (need_of op) unknown b) (ltb-false n 2 c) (ltb-false most_operands count d) (ltb-false n (count + 2) e)))))))

-- ---- the four kinds told apart
unfoldable pub is_waits : Seen → Bool
is_waits Waits = true
is_waits Bad = false
is_waits Long = false
is_waits (Whole k) = false

unfoldable pub is_whole : Seen → Bool
is_whole Waits = false
is_whole Bad = false
is_whole Long = false
is_whole (Whole k) = true

pub long_not_whole : (count : ℕ) → is_whole (long_by count) ≡ false
unfolding long_by is_whole
long_not_whole count = by (ltb count (2 ^ 31))
  where
    by : (t : Bool) → is_whole (cond t Long Bad) ≡ false
    by true = refl
    by false = refl

pub long_not_waits : (count : ℕ) → is_waits (long_by count) ≡ false
unfolding long_by is_waits
long_not_waits count = by (ltb count (2 ^ 31))
  where
    by : (t : Bool) → is_waits (cond t Long Bad) ≡ false
    by true = refl
    by false = refl

-- ---- a line that is whole passed every test
pub record IsWhole (n op count k : ℕ) : Type 0 where
  pub opcode : op ≤ 255
  pub known : need_of op ≡ unknown → ⊥
  pub short : count ≤ most_operands
  pub is : k ≡ count + 2
  pub there : k ≤ n

not_whole : {A : Type 0} {a : Seen} {k : ℕ} → is_whole a ≡ false → a ≡ Whole k → A
unfolding is_whole
not_whole f e = absurd (true≢false (sym (ap is_whole e) ∙ f))

whole_words : {k m : ℕ} → Whole k ≡ Whole m → k ≡ m
unfolding whole_by
whole_words e = ap whole_by e

whole_by_lem : (n op count k : ℕ) → Tests n op count → look_by n op count ≡ Whole k → IsWhole n op count k
unfolding is_whole
whole_by_lem n op count k (Empty h) e = not_whole refl (sym (no_word n op count h) ∙ e)
whole_by_lem n op count k (Beyond h a) e = not_whole refl (sym (no_opcode n op count h a) ∙ e)
whole_by_lem n op count k (Strange h a b) e = not_whole refl (sym (not_known n op count h a b) ∙ e)
whole_by_lem n op count k (Single h a b c) e = not_whole refl (sym (no_count n op count h a b c) ∙ e)
whole_by_lem n op count k (Longer a b c d) e = not_whole (long_not_whole count) (sym (too_long n op count (omega (arith, c)) a b c d) ∙ e)
whole_by_lem n op count k (Short a b c d f) e = not_whole refl (sym (not_all n op count (omega (arith, c)) a b c d f) ∙ e)
whole_by_lem n op count k (Full a b c d f) e =
    let i : k ≡ count + 2 = whole_words (sym e ∙ all n op count (omega (arith, c)) a b c d f) in
    record { opcode = a; known = b; short = d; is = i; there = omega (arith, i, f) }

pub whole_is : (n op count : ℕ) {k : ℕ} → look_by n op count ≡ Whole k → IsWhole n op count k
whole_is n op count {k} e = whole_by_lem n op count k (tests n op count) e

-- ---- more words: what isn't waited for is settled
module _ (n m op count count' : ℕ) (more : n ≤ m) (same : 2 ≤ n → count ≡ count') where
  grown_by : Tests n op count → is_waits (look_by n op count) ≡ false → look_by m op count' ≡ look_by n op count
  unfolding is_waits
  grown_by (Empty h) e = absurd (true≢false (sym (ap is_waits (no_word n op count h)) ∙ e))
  grown_by (Beyond h a) e = no_opcode m op count' (omega (arith, h, more)) a ∙ sym (no_opcode n op count h a)
  grown_by (Strange h a b) e = not_known m op count' (omega (arith, h, more)) a b ∙ sym (not_known n op count h a b)
  grown_by (Single h a b c) e = absurd (true≢false (sym (ap is_waits (no_count n op count h a b c)) ∙ e))
  grown_by (Longer a b c d) e =
      ap (look_by m op) (sym (same c)) ∙ too_long m op count (omega (arith, c, more)) a b (omega (arith, c, more)) d
      ∙ sym (too_long n op count (omega (arith, c)) a b c d)
  grown_by (Short a b c d f) e = absurd (true≢false (sym (ap is_waits (not_all n op count (omega (arith, c)) a b c d f)) ∙ e))
  grown_by (Full a b c d f) e =
      ap (look_by m op) (sym (same c)) ∙ all m op count (omega (arith, c, more)) a b (omega (arith, c, more)) d (omega (arith, f, more))
      ∙ sym (all n op count (omega (arith, c)) a b c d f)

-- ---- words that wait, and one more: a line that is whole then ends with it
module _ (n op count count' : ℕ) (same : 2 ≤ n → count ≡ count') where
  waited_by : Tests n op count → {k : ℕ} → is_waits (look_by n op count) ≡ true → IsWhole (suc n) op count' k → n < k
  unfolding is_waits
  waited_by (Empty h) e w = omega (arith, h, w.is)
  waited_by (Beyond h a) e w = absurd (true≢false (sym e ∙ ap is_waits (no_opcode n op count h a)))
  waited_by (Strange h a b) e w = absurd (true≢false (sym e ∙ ap is_waits (not_known n op count h a b)))
  waited_by (Single h a b c) e w = omega (arith, c, w.is)
  waited_by (Longer a b c d) e w = absurd (true≢false (sym e ∙ ap is_waits (too_long n op count (omega (arith, c)) a b c d) ∙ long_not_waits count))
  waited_by (Short a b c d f) e w = omega (arith, f, same c, w.is)
  waited_by (Full a b c d f) e w = absurd (true≢false (sym e ∙ ap is_waits (all n op count (omega (arith, c)) a b c d f)))

-- ---- words that wait are fewer than a line's most
few_by : (n op count : ℕ) → Tests n op count → is_waits (look_by n op count) ≡ true → n < most_line
unfolding is_waits
few_by n op count (Empty h) e = omega (arith, h)
few_by n op count (Beyond h a) e = absurd (true≢false (sym e ∙ ap is_waits (no_opcode n op count h a)))
few_by n op count (Strange h a b) e = absurd (true≢false (sym e ∙ ap is_waits (not_known n op count h a b)))
few_by n op count (Single h a b c) e = omega (arith, c)
few_by n op count (Longer a b c d) e = absurd (true≢false (sym e ∙ ap is_waits (too_long n op count (omega (arith, c)) a b c d) ∙ long_not_waits count))
few_by n op count (Short a b c d f) e = omega (arith, f, d)
few_by n op count (Full a b c d f) e = absurd (true≢false (sym e ∙ ap is_waits (all n op count (omega (arith, c)) a b c d f)))

-- ---- the same of lists
pub few : (l : List ℤ) → is_waits (look_of l) ≡ true → length l < most_line
few l e = few_by (length l) _ _ (tests (length l) (index_of (get_or l 0 (pos 0))) (index_of (get_or l 1 (pos 0)))) e

pub grown : (q l : List ℤ) → is_waits (look_of q) ≡ false → look_of (q ++ l) ≡ look_of q
unfolding is_waits
grown [] l e = absurd (true≢false (sym (ap is_waits (no_word 0 _ _ (omega arith))) ∙ e))
grown (x ∷ q) l e =
    grown_by (length (x ∷ q)) (length (x ∷ q ++ l)) (index_of x) _ _ (omega (arith, length-append q l))
    (λ h. ap index_of (sym (get_or-append (x ∷ q) l (pos 0) 1 h))) (tests (length (x ∷ q)) (index_of x) (index_of (get_or (x ∷ q) 1 (pos 0)))) e

pub waited : (p : List ℤ) (x : ℤ) {k : ℕ} → is_waits (look_of p) ≡ true → look_of (p ++ (x ∷ [])) ≡ Whole k → k ≡ suc (length p)
waited [] x {k} e w = let i = whole_is 1 (index_of x) _ w in omega (arith, i.is, i.there)
waited (y ∷ p) x {k} e w =
    let n : length (y ∷ p ++ (x ∷ [])) ≡ suc (length (y ∷ p)) = ap suc (length-append p (x ∷ []) ∙ add-one (length p)) in
    let c = index_of (get_or (y ∷ p ++ (x ∷ [])) 1 (pos 0)) in
    let i : IsWhole (suc (length (y ∷ p))) (index_of y) c k = subst (λ (m : ℕ). IsWhole m (index_of y) c k) n (whole_is (length (y ∷ p ++ (x ∷ []))) (index_of y) c w) in
    let h = waited_by (length (y ∷ p)) (index_of y) _ c (λ h. ap index_of (sym (get_or-append (y ∷ p) (x ∷ []) (pos 0) 1 h))) (tests (length (y ∷ p)) (index_of y) (index_of (get_or (y ∷ p) 1 (pos 0)))) e i in
    omega (arith, h, i.there)

-- ---- the two words as they were read
pub by_opcode : (l : List ℤ) {op : ℕ} → op ≡ index_of (get_or l 0 (pos 0)) → look_by (length l) op (index_of (get_or l 1 (pos 0))) ≡ look_of l
by_opcode l e = ap (λ (o : ℕ). look_by (length l) o (index_of (get_or l 1 (pos 0)))) e

pub by_both : (l : List ℤ) {op count : ℕ} → op ≡ index_of (get_or l 0 (pos 0)) → count ≡ index_of (get_or l 1 (pos 0)) → look_by (length l) op count ≡ look_of l
by_both l {op} e d = ap (look_by (length l) op) d ∙ by_opcode l e
