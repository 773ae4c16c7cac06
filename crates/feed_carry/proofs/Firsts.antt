-- What a call begins with, over plain values. Assumes nothing.
use mathlib.Core.Bool.{Bool, false, true, true≢false}
use mathlib.Core.List.{List, [], ◌++◌, ◌∷◌}
use mathlib.Core.Logic.{inl, inr}
use mathlib.Core.Path.{◌∙◌, ◌≡◌, ap, refl, subst, sym}
use Prim.Native.Nat.{ℕ, ◌+◌, ◌<◌, ◌≤◌, min}
use native.Mathlib.Omega.{arith}
use borrow.Author.Tests.{leb-false, leb-true}
use lib.Dec.{leb}
use lib.IntN.{ℤ, pos}
use lib.ListN.{get_or-append, get_or, length, length-append, length-take, take}
use lib.Seq.{length-take-le, take-take}
use Rattle.int.specs.Word.{index_of}
use Rattle.feed_look.specs.Look.{look_by, look_of, most_line}
use Rattle.feed_look.specs.Steps.{whole_by}
use Rattle.feed_look.specs.declared.Seen.{Seen}
use Rattle.feed_look.specs.declared.Seen.TheVariants.{Waits, Whole}
use Rattle.feed_look.proofs.Counts.{is_whole}
use Rattle.feed_look.proofs.Looks.{all, is_waits, no_word, whole_is}
use Rattle.feed_carry.specs.Carry.{waits}
use Rattle.feed_carry.specs.Steps.{FirstIs, kept, rest_by}
use Rattle.feed_carry.specs.declared.Begins.TheVariants.{Run, Settled}
use Rattle.feed_carry.specs.declared.Fed.{Fed}
use Rattle.feed_carry.proofs.Joins.{as_waits, look_front, waits_short}

-- ---- a line that is whole ends behind the words that waited
module _ (y : ℤ) (p l : List ℤ) {k : ℕ} (e : is_waits (look_of (y ∷ p)) ≡ true) (w : look_of ((y ∷ p) ++ l) ≡ Whole k) where
  sooner : k ≤ length (y ∷ p) → ⊥
  unfolding is_waits
  sooner h =
      let n = length (y ∷ p) in
      let c = index_of (get_or ((y ∷ p) ++ l) 1 (pos 0)) in
      let i = whole_is (length ((y ∷ p) ++ l)) (index_of y) c w in
      let same : index_of (get_or (y ∷ p) 1 (pos 0)) ≡ c = ap index_of (sym (get_or-append (y ∷ p) l (pos 0) 1 (omega (arith, h, i.is)))) in
      let seen : look_of (y ∷ p) ≡ Whole (c + 2) = ap (look_by n (index_of y)) same ∙ all n (index_of y) c (omega (arith, h, i.is)) i.opcode i.known (omega (arith, h, i.is)) i.short (omega (arith, h, i.is)) in
      true≢false (sym e ∙ ap is_waits seen)

pub ends_behind : (p l : List ℤ) {k : ℕ} → is_waits (look_of p) ≡ true → look_of (p ++ l) ≡ Whole k → length p ≤ k
ends_behind [] l e w = omega arith
ends_behind (y ∷ p) l {k} e w = by (leb (length (y ∷ p)) k) refl
  where
    by : (t : Bool) → leb (length (y ∷ p)) k ≡ t → length (y ∷ p) ≤ k
    by true h = leb-true (length (y ∷ p)) k h
    by false h = absurd (sooner y p l e w (omega (arith, leb-false (length (y ∷ p)) k h)))

-- ---- what is begun with
pub first_none : (c : Fed) (words carry line : List ℤ) → c.held ≡ 0 → FirstIs c words carry carry line (Run 0)
unfolding FirstIs
first_none c words carry line e = (refl, refl, omega (arith, e), omega arith, omega arith, inl refl)

module _ (c : Fed) (words carry line : List ℤ) {r : ℕ} {seen : Seen} {whole : ℕ}
    (there : c.held ≤ length carry) (waiting : waits (look_of (take c.held carry)) ≡ true)
    (joined : (take r line ≡ take most_line (take c.held carry ++ words)) × (r ≡ length (take most_line (take c.held carry ++ words))))
    (es : seen ≡ look_of (take r line)) (ew : whole ≡ whole_by seen) where
  abbrev p : List ℤ
  p = take c.held carry

  abbrev q : List ℤ
  q = p ++ words

  held_is : length p ≡ c.held
  held_is = length-take-le c.held carry there

  as_all : seen ≡ look_of q
  as_all = es ∙ ap look_of joined.0 ∙ look_front q

  pub first_room : most_line ≤ length carry → seen ≡ Waits → c.held + length words ≤ length carry
  first_room h t = omega (arith, h, waits_short q (sym as_all ∙ t), length-append p words, held_is)

  pub first_run : 0 < whole → FirstIs c words carry carry line (Run whole)
  unfolding FirstIs
  first_run h =
      let s : seen ≡ Whole whole = is_whole seen (subst (λ (n : ℕ). 0 < n) ew h) ∙ ap Whole (sym ew) in
      let j = take most_line q in
      let i = whole_is (length j) _ _ (sym (es ∙ ap look_of joined.0) ∙ s) in
      let b : length j ≡ min most_line (length q) = length-take most_line q in
      let most : length j ≤ most_line = omega (arith, b) in
      let fits : length j ≤ length q = omega (arith, b) in
      let m : whole ≤ r = omega (arith, i.there, joined.1) in (
        refl,
        sym (take-take whole r line m) ∙ ap (take whole) joined.0 ∙ take-take whole most_line q (omega (arith, i.there, most)),
        omega (arith, held_is, ends_behind p words (as_waits (look_of p) ∙ waiting) (sym as_all ∙ s)),
        omega (arith, i.there, fits, length-append p words, held_is),
        omega (arith, i.there, most),
        inr (sym as_all ∙ s),
      )

  pub first_settled : {d : Fed} {carry' : List ℤ} → whole ≤ 0 → kept d carry' ≡ rest_by c.base c.held 0 c.state words carry seen → FirstIs c words carry carry' line (Settled d)
  unfolding FirstIs
  first_settled h e = (e ∙ ap (rest_by c.base c.held 0 c.state words carry) as_all, ap whole_by (sym as_all) ∙ sym ew ∙ omega (arith, h))
