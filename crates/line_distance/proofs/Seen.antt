-- What each definition says by the tests that were made and what the calls ensure, over plain values: the functions' proofs cite these, so that no
-- tactic has to look at what is known at a place in the code. Assumes nothing.
use mathlib.Core.Path.{◌≡◌, refl, ap, ap₂, sym, ◌∙◌}
use mathlib.Core.Bool.{Bool, ◌&&◌, ◌||◌, cond, not, true, false}
use mathlib.Core.List.{List}
use Prim.Native.Nat.{ℕ}
use lib.IntN.{ℤ, pos}
use lib.Signed.{lt_z, non_neg}
use Rattle.graphics.specs.State.{is_twilight}
use Rattle.graphics.specs.declared.Vector.{Vector}
use Rattle.graphics.specs.declared.ZonePointer.{ZonePointer}
use Rattle.int.specs.Word.{abs32, add32, max_z, min_z, neg32, sub32}
use Rattle.line.specs.Places.{place_in}
use Rattle.math.specs.Fixed.{mul_fix, xor}
use Rattle.projection.specs.Projection.{along_of}
use Rattle.round.proofs.Exact.{tracked}
use Rattle.round.specs.Tracked.{given, on}
use Rattle.round.specs.declared.RoundState.{RoundState}
use Rattle.round.specs.declared.Tracked.{Tracked}
use Rattle.zone.specs.Zone.{place_of}
use Rattle.line_distance.specs.Distance.{at_least, chosen_of, finished, flipped_of, keeps_minimum, minimum_of, on_side_of, rounded_unless, rounds, single_control, single_outline}
use Rattle.line_distance.specs.Outline.{originals_apart, outline_of, unscaled_apart}

-- by a test that was made
pub yes_of : {A : Type 0} {x a : A} (b : A) {t : Bool} → t ≡ true → x ≡ a → x ≡ cond t a b
yes_of b h e = rw h e

pub no_of : {A : Type 0} {x b : A} (a : A) {t : Bool} → t ≡ false → x ≡ b → x ≡ cond t a b
no_of a h e = rw h e

-- what is chosen, of numbers as they are read back
pub near_by : {c c' k k' o o' r : ℤ} → r ≡ chosen_of c' k' o' → c' ≡ c → k' ≡ k → o' ≡ o → r ≡ chosen_of c k o
near_by {o' = o'} er ec ek eo = er ∙ ap₂ (λ (c k : ℤ). chosen_of c k o') ec ek ∙ ap (chosen_of _ _) eo

-- ---- the single width, numbers with a mark being as they are read back
module _ (d width : ℤ) {d' w' : ℤ} (ed : d' ≡ d) (ew : w' ≡ width) where
  module _ {t : Bool} (et : t ≡ non_neg d') where
    pub this_side : t ≡ true → w' ≡ on_side_of d width
    unfolding on_side_of
    this_side h = let k : non_neg d ≡ true = ap non_neg (sym ed) ∙ sym et ∙ h in rw k ew

    pub other_side : {n n' : ℤ} → t ≡ false → n' ≡ n → n ≡ neg32 w' → n' ≡ on_side_of d width
    unfolding on_side_of
    other_side h en' en = let k : non_neg d ≡ false = ap non_neg (sym ed) ∙ sym et ∙ h in rw (k, en', en, ew) refl

  module _ (cut_in : ℤ) {c' : ℤ} (ec : c' ≡ cut_in) where
    -- MDRP's
    module _ {p p' m m' : ℤ} {below above some : Bool} (ep' : p' ≡ p) (ep : p ≡ add32 w' c') (eb : below ≡ lt_z d' p') (em' : m' ≡ m) (em : m ≡ sub32 w' c') (ea : above ≡ lt_z m' d') (es : some ≡ lt_z (pos 0) c') where
      outline_test : some && below && above ≡ lt_z (pos 0) cut_in && lt_z d (add32 width cut_in) && lt_z (sub32 width cut_in) d
      outline_test = rw (eb, ea, es, ep', ep, em', em, ed, ew, ec) refl

      pub outline_near : {r r' : ℤ} → some && below && above ≡ true → r' ≡ r → r ≡ on_side_of d' w' → r' ≡ single_outline cut_in width d
      unfolding single_outline
      outline_near h er' er = rw (sym outline_test ∙ h, er', er, ed, ew) refl

      pub outline_far : some && below && above ≡ false → d' ≡ single_outline cut_in width d
      unfolding single_outline
      outline_far h = rw (sym outline_test ∙ h) ed

    -- MIRP's
    module _ {m m' a a' : ℤ} {t : Bool} (em' : m' ≡ m) (em : m ≡ sub32 d' w') (ea' : a' ≡ a) (ea : a ≡ abs32 m') (et : t ≡ lt_z a' c') where
      control_test : t ≡ lt_z (abs32 (sub32 d width)) cut_in
      control_test = rw (et, ea', ea, em', em, ed, ew, ec) refl

      pub control_near : {r r' : ℤ} → t ≡ true → r' ≡ r → r ≡ on_side_of d' w' → r' ≡ single_control cut_in width d
      unfolding single_control
      control_near h er' er = rw (sym control_test ∙ h, er', er, ed, ew) refl

      pub control_far : t ≡ false → d' ≡ single_control cut_in width d
      unfolding single_control
      control_far h = rw (sym control_test ∙ h) ed

-- ---- auto flip
differ : (a b : Bool) → xor a b ≡ cond a (not b) b
differ true true = refl
differ true false = refl
differ false true = refl
differ false false = refl

module _ (auto : Bool) (original control : ℤ) {o' c' : ℤ} {a b : Bool} (eo : o' ≡ original) (ec : c' ≡ control) (ea : a ≡ non_neg o') (eb : b ≡ non_neg c') where
  apart : auto && xor a b ≡ auto && cond (non_neg original) (not (non_neg control)) (non_neg control)
  apart = rw (ea, eb, eo, ec) (ap (λ (t : Bool). auto && t) (differ (non_neg original) (non_neg control)))

  pub flipped_over : {r r' : ℤ} → auto && xor a b ≡ true → r' ≡ r → r ≡ neg32 c' → r' ≡ flipped_of auto original control
  unfolding flipped_of
  flipped_over h er' er = rw (sym apart ∙ h, er', er, ec) refl

  pub left_there : auto && xor a b ≡ false → c' ≡ flipped_of auto original control
  unfolding flipped_of
  left_there h = rw (sym apart ∙ h) ec

-- ---- the minimum distance
module _ (minimum original d : ℤ) {m' o' d' : ℤ} {t : Bool} (em : m' ≡ minimum) (eo : o' ≡ original) (ed : d' ≡ d) (et : t ≡ non_neg o') where
  pub least_above : {r r' : ℤ} → t ≡ true → r' ≡ r → r ≡ max_z d' m' → r' ≡ at_least minimum original d
  unfolding at_least
  least_above h er' er = let k : non_neg original ≡ true = ap non_neg (sym eo) ∙ sym et ∙ h in rw (k, er', er, ed, em) refl

  pub least_below : {n n' r r' : ℤ} → t ≡ false → n' ≡ n → n ≡ neg32 m' → r' ≡ r → r ≡ min_z d' n' → r' ≡ at_least minimum original d
  unfolding at_least
  least_below h en' en er' er = let k : non_neg original ≡ false = ap non_neg (sym eo) ∙ sym et ∙ h in rw (k, er', er, en', en, ed, em) refl

-- ---- MDRP's and MIRP's last steps
-- not rounded under native ClearType, nor where the opcode says so
rounded_or_given : (native wanted : Bool) (s : RoundState) (d : ℤ) → rounded_unless (native || not wanted) s d ≡ cond wanted (rounded_unless native s d) (given d)
unfolding rounded_unless
rounded_or_given true true s d = refl
rounded_or_given true false s d = refl
rounded_or_given false true s d = refl
rounded_or_given false false s d = refl

module _ (opcode : ℕ) (native : Bool) (round : RoundState) (minimum original d : ℤ) {b k : Bool} {d' : ℤ} {r : Tracked} (eb : b ≡ rounds opcode) (ed : d' ≡ d) (er : r ≡ rounded_unless (native || not b) round d') (ek : k ≡ keeps_minimum opcode) where
  rounded_first : r ≡ cond (rounds opcode) (rounded_unless native round d) (given d)
  rounded_first = rw (er, ed, eb) (rounded_or_given native (rounds opcode) round d)

  pub finish_kept : {m m' n' o' w l l' : ℤ} → k ≡ true → n' ≡ minimum → m' ≡ m → m ≡ minimum_of native n' → o' ≡ original → w ≡ r.word → l' ≡ l → l ≡ at_least m' o' w
      → tracked l' r.wrapped ≡ finished opcode native round minimum original d
  unfolding finished
  finish_kept {l' = l'} h en em' em eo ew el' el =
      let kept : l' ≡ at_least (minimum_of native minimum) original r.word = rw (el', el, em', em, en, eo, ew) refl in
      rw (sym ek ∙ h) (ap (λ (z : ℤ). tracked z r.wrapped) kept ∙ ap (on (at_least (minimum_of native minimum) original)) rounded_first)

  pub finish_free : k ≡ false → r ≡ finished opcode native round minimum original d
  unfolding finished
  finish_free h = rw (sym ek ∙ h) rounded_first

-- ---- the original outline
module _ (v : Vector) (scale : ℤ) (p : ZonePointer) (a : ℕ) (q : ZonePointer) (b : ℕ) (gux guy gox goy tox toy : List ℤ) {t u : Bool} (et : t ≡ is_twilight p) (eu : u ≡ is_twilight q) where
  pub of_places : {here there : Vector} {s d r : ℤ} → here ≡ cond (t || u) (place_in a gox goy tox toy p) (place_of gux guy a) → there ≡ cond (t || u) (place_in b gox goy tox toy q) (place_of gux guy b)
      → d ≡ along_of v here there → s ≡ scale → r ≡ cond (t || u) d (mul_fix d s) → r ≡ outline_of v scale p a q b gux guy gox goy tox toy
  unfolding outline_of originals_apart unscaled_apart
  of_places eh eo ed es er = by_both (t || u) (place_in a gox goy tox toy p) (place_of gux guy a) (place_in b gox goy tox toy q) (place_of gux guy b) eh eo ed es er ∙ ap (λ (o : Bool). cond o (along_of v (place_in a gox goy tox toy p) (place_in b gox goy tox toy q)) (mul_fix (along_of v (place_of gux guy a) (place_of gux guy b)) scale)) (ap₂ ◌||◌ et eu)
    where
      by_both : (o : Bool) (h h' k k' : Vector) {here there : Vector} {s d r : ℤ} → here ≡ cond o h h' → there ≡ cond o k k' → d ≡ along_of v here there → s ≡ scale → r ≡ cond o d (mul_fix d s) → r ≡ cond o (along_of v h k) (mul_fix (along_of v h' k') scale)
      by_both true h h' k k' eh eo ed es er = er ∙ ed ∙ ap₂ (along_of v) eh eo
      by_both false h h' k k' eh eo ed es er = er ∙ ap₂ mul_fix (ed ∙ ap₂ (along_of v) eh eo) es
