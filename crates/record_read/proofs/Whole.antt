-- What is known of a byte string that `open_of` finds whole. Assumes nothing.
use Rattle.std.specs.Prelude.{Result, Ok, Err}
use Rattle.record_read.specs.declared.Damage.{Damage}
use mathlib.Core.Bool.{Bool, true, false, cond, ◌&&◌}
use mathlib.Core.List.{List}
use mathlib.Core.Path.{◌∙◌, ◌≡◌, ap, refl, sym}
use Prim.Native.Nat.{◌%◌, ◌*◌, ◌+◌, ◌-◌, ◌/◌, ◌<◌, ◌≤◌, ℕ}
use native.Mathlib.Omega.{arith}
use borrow.Author.Tests.{eqb-true, leb-true, ltb-true}
use lib.Dec.{eqb, leb, ltb}
use lib.ListN.{length}
use Rattle.graphics.proofs.Laws.{and_left, and_right}
use Rattle.int.specs.Word.{of_bits}
use Rattle.state_words.specs.Words.{is_state, state_size}
use Rattle.words.proofs.Parts.{mapped_length}
use Rattle.words.specs.Lists.{all_at_most, end_of, part, wrapping_sum}
use Rattle.record_layout.specs.Order.{at_trailer, most_bytes, list_place, trailer_size}
use Rattle.record_read.specs.Read.{counts_fit, framed, held_in, layout_of, length_fits, open_of, state_in, sum_fits, trailer_fits, trailer_word, word_count, words_fit}
use Rattle.record_layout.specs.declared.Layout.{Layout}
use Rattle.record_read.specs.Format.{layout, layout_for}
use Rattle.record_read.specs.declared.Damage.TheVariants.{TooLong, Form, Sum}

abbrev pub verdict : Layout → Bool → Bool → Bool → Result Layout Damage
verdict l short frame sum = cond short (cond frame (cond sum (Ok l) (Err Sum)) (Err Form)) (Err TooLong)

pub record Passed (found l : Layout) (short frame sum : Bool) : Type 0 where
  pub short_enough : short ≡ true
  pub fits : frame ≡ true
  pub sums : sum ≡ true
  pub same : found ≡ l

passed : (found l : Layout) (short frame sum : Bool) → verdict found short frame sum ≡ Ok l → Passed found l short frame sum
passed found l true true true e = record { short_enough = refl; fits = refl; sums = refl; same = cc e }
passed found l true true false e = record { short_enough = cc e; fits = cc e; sums = cc e; same = cc e }
passed found l true false sum e = record { short_enough = cc e; fits = cc e; sums = cc e; same = cc e }
passed found l false frame sum e = record { short_enough = cc e; fits = cc e; sums = cc e; same = cc e }

-- each test of a whole record, by name
pub record Sound (bytes : List ℕ) (l : Layout) : Type 0 where
  pub size_is : length bytes ≤ most_bytes
  pub length_is : length bytes % 4 ≡ 0
  pub counts_fit_lem : counts_fit l ≡ true
  pub adds_up : at_trailer l + trailer_size ≡ word_count bytes
  pub kept_is : 0 < l.state
  pub back_is : trailer_word bytes 6 ≡ at_trailer l * 4
  pub state_is : is_state (state_in bytes) ≡ true
  pub flags_are : all_at_most 255 (part bytes (list_place l 6) l.points) ≡ true
  pub ends_are : all_at_most 65535 (part bytes (list_place l 7) l.contours) ≡ true
  pub twilight_are : all_at_most 255 (part bytes (list_place l 12) l.twilight) ≡ true
  pub sum_is : wrapping_sum (part bytes 0 (word_count bytes - 1)) ≡ trailer_word bytes 7

-- four and three tests in a row
and4 : {a b c d : Bool} → a && b && c && d ≡ true → (a ≡ true) × (b ≡ true) × (c ≡ true) × (d ≡ true)
and4 {a} {b} {c} {d} e =
    let abc = and_left (a && b && c) d e in
    let ab = and_left (a && b) c abc in
    (and_left a b ab, and_right a b ab, and_right (a && b) c abc, and_right (a && b && c) d e)

and3 : {a b c : Bool} → a && b && c ≡ true → (a ≡ true) × (b ≡ true) × (c ≡ true)
and3 {a} {b} {c} e = let ab = and_left (a && b) c e in (and_left a b ab, and_right a b ab, and_right (a && b) c e)

module _ (bytes : List ℕ) (l : Layout) (e : open_of bytes ≡ Ok l) where
  by_tests : verdict (layout_of bytes) (leb (length bytes) most_bytes) (framed bytes && words_fit bytes (layout_of bytes)) (sum_fits bytes) ≡ Ok l
  unfolding open_of
  by_tests = e

  all_passed : Passed (layout_of bytes) l (leb (length bytes) most_bytes) (framed bytes && words_fit bytes (layout_of bytes)) (sum_fits bytes)
  all_passed = passed (layout_of bytes) l (leb (length bytes) most_bytes) (framed bytes && words_fit bytes (layout_of bytes)) (sum_fits bytes) by_tests

  pub layout_is : layout_of bytes ≡ l
  layout_is = all_passed.same

  frame_holds : framed bytes ≡ true
  frame_holds = and_left (framed bytes) (words_fit bytes (layout_of bytes)) all_passed.fits

  words_hold : words_fit bytes (layout_of bytes) ≡ true
  words_hold = and_right (framed bytes) (words_fit bytes (layout_of bytes)) all_passed.fits

  pub sound : Sound bytes (layout_of bytes)
  sound =
      let m = layout_of bytes in
      let f = and3 {a = length_fits bytes} {b = counts_fit m} {c = trailer_fits bytes m} frame_holds in
      let w = and4 {a = is_state (state_in bytes)} {b = all_at_most 255 (part bytes (list_place m 6) m.points)} {c = all_at_most 65535 (part bytes (list_place m 7) m.contours)} {d = all_at_most 255 (part bytes (list_place m 12) m.twilight)} words_hold in
      let t = and3 {a = eqb (at_trailer m + trailer_size) (word_count bytes)} {b = ltb 0 m.state} {c = eqb (trailer_word bytes 6) (at_trailer m * 4)} f.2 in
      record {
        size_is = leb-true (length bytes) most_bytes all_passed.short_enough;
        length_is = eqb-true (length bytes % 4) 0 (and_left (eqb (length bytes % 4) 0) (leb trailer_size (word_count bytes)) f.0);
        counts_fit_lem = f.1;
        adds_up = eqb-true (at_trailer m + trailer_size) (word_count bytes) t.0;
        kept_is = ltb-true 0 m.state t.1;
        back_is = eqb-true (trailer_word bytes 6) (at_trailer m * 4) t.2;
        state_is = w.0;
        flags_are = w.1;
        ends_are = w.2;
        twilight_are = w.3;
        sum_is = eqb-true (wrapping_sum (part bytes 0 (word_count bytes - 1))) (trailer_word bytes 7) all_passed.sums;
      }

-- ---- the counts of what is read
same_layout : {s s' p p' c c' t t' k k' w w' : ℕ} → s ≡ s' → p ≡ p' → c ≡ c' → t ≡ t' → k ≡ k' → w ≡ w'
    → ◌≡◌ {A = Layout} (record { state = s; points = p; contours = c; twilight = t; controls = k; words = w }) (record { state = s'; points = p'; contours = c'; twilight = t'; controls = k'; words = w' })
same_layout e a b c d f = cc

-- are those of its layout
pub layout_kept : (bytes : List ℕ) (l : Layout) → layout_for (held_in bytes l) ≡ layout state_size l.points l.contours l.twilight l.controls l.words
layout_kept bytes l =
    same_layout refl (mapped_length of_bits bytes (list_place l 4) l.points) (mapped_length end_of bytes (list_place l 7) l.contours)
    (mapped_length of_bits bytes (list_place l 10) l.twilight) (mapped_length of_bits bytes (list_place l 13) l.controls) (mapped_length of_bits bytes (list_place l 14) l.words)
