-- What is written reads back as written, for all that a record can hold: `kept_as_written`. Assumes nothing.
use Rattle.std.specs.Prelude.{Ok}
use mathlib.Core.Bool.{Bool, true, ◌&&◌}
use mathlib.Core.List.{List, [], ◌++◌, ◌∷◌}
use mathlib.Core.Path.{◌∙◌, ◌≡◌, ap, ap₂, refl, sym}
use Prim.Native.Nat.{◌%◌, ◌*◌, ◌+◌, ◌-◌, ◌/◌, ◌<◌, ◌≤◌, ◌^◌, suc, ℕ}
use native.Mathlib.Omega.{arith}
use borrow.Author.Tests.{eq-eqb, le-leb}
use lib.ListN.{get_or, length}
use Rattle.state_words.specs.Words.{is_state, state_size, state_words}
use Rattle.words.specs.Lists.{all_at_most, bytes_of, part, sum_of, word, words_of_numbers, wrapping_sum}
use Rattle.words.proofs.Back.{Bytes, Words}
use Rattle.words.proofs.Back.Bytes.{more as more_bytes, none as none-bytes}
use Rattle.words.proofs.Back.Words.{more, none}
use Rattle.words.proofs.Storing.{bytes_length}
use Rattle.record_read.specs.Format.{Held, body_words, glyph_words, layout, layout_for, record_of, trailer_words, twilight_words, words_of}
use Rattle.record_read.specs.Read.{Kept, counts_fit, framed, kept_by, kept_in, layout_of, open_of, read_as, read_of, sum_fits, trailer_fits, trailer_word, word_count, words_fit}
use Rattle.record_layout.specs.Order.{at_trailer, edition, most_bytes, list_place, record_size, trailer_size}
use Rattle.record_layout.specs.declared.Layout.{Layout}
use Rattle.limits.specs.Limits.{most_contours, most_control_values, most_points, most_words}
use Rattle.line.proofs.Alike.{fits_most}
use Rattle.laws_record.proofs.Keepable.{Keepable}
use Rattle.words.proofs.Widths.{Below, no_word, one_word}
use Rattle.laws_record.proofs.Lies.{Lies, end_words, flag_words, lies_all, lies_at, lies_left, lies_right, number_words, words_join}
use Rattle.record_read.proofs.Whole.{verdict}
use Rattle.laws_record.proofs.States.{low_small, state_is, state_words_fit}
use Rattle.laws_record.proofs.Whence.{both}
use Rattle.laws_record.proofs.Flags.{flags_within}
use Rattle.laws_record.proofs.Written.{b, controls_long, ends_at, ends_lies, flags_at, flags_lies, flags_long, glyph_long, joined_long, l, read_as_written, sheet_long, state_long, state_same, twilight_long, twilight_flags_at, twilight_flags_lies, twilight_flags_long}

ends_within : {ws : List ℕ} → Below 65536 ws → all_at_most 65535 ws ≡ true
ends_within no_word = refl
ends_within (one_word {w} h f) = both (le-leb w 65535 (omega arith)) (ends_within f)

same_layout : {s s' p p' c c' t t' k k' w w' : ℕ} → s ≡ s' → p ≡ p' → c ≡ c' → t ≡ t' → k ≡ k' → w ≡ w' → layout s p c t k w ≡ layout s' p' c' t' k' w'
same_layout e e0 e1 e2 e3 e4 = cc

-- the counts of what is held are within document 01's sizes
counts_fit_lem : (h : Held) → Keepable h → counts_fit (layout_for h) ≡ true
counts_fit_lem h k =
    let l = layout_for h in
    let m = fits_most h.fixed h.sheet h.world k.sizes in
    both (both (both (both (le-leb l.points most_points m.points) (le-leb l.contours most_contours m.contours)) (le-leb l.twilight most_points m.twilight))
    (le-leb l.controls most_control_values m.controls)) (le-leb l.words most_words m.words)

-- every word of a record is one of 32 bits
glyph_words_fit : (h : Held) → Keepable h → Words (glyph_words h)
glyph_words_fit h k =
    words_join (number_words k.widths.fixed.gux) (words_join (number_words k.widths.fixed.guy) (words_join (number_words k.widths.fixed.gox) (words_join (number_words k.widths.fixed.goy)
    (words_join (number_words k.widths.world.gx) (words_join (number_words k.widths.world.gy) (words_join (flag_words k.widths.world.gflags) (end_words k.widths.fixed.contours)))))))

twilight_words_fit : (h : Held) → Keepable h → Words (twilight_words h)
twilight_words_fit h k =
    words_join (number_words k.widths.world.tox) (words_join (number_words k.widths.world.toy) (words_join (number_words k.widths.world.tx) (words_join (number_words k.widths.world.ty) (flag_words k.widths.world.tflags))))

trailer_words_fit : (l : Layout) → (at_trailer l + trailer_size) * 4 ≤ most_bytes → Words (trailer_words l)
trailer_words_fit l h =
    let a : l.points < 2 ^ 32 = omega arith in
    let b : l.contours < 2 ^ 32 = omega arith in
    let c : l.twilight < 2 ^ 32 = omega arith in
    let d : l.controls < 2 ^ 32 = omega arith in
    let e : l.words < 2 ^ 32 = omega arith in
    let newest : edition < 2 ^ 32 = omega arith in
    more a (more b (more c (more d (more e (more newest (more (low_small (at_trailer l * 4)) none))))))

words_fit_lem : (h : Held) → Keepable h → Words (words_of h)
words_fit_lem h k =
    words_join
    (words_join
    (words_join (state_words_fit h.world.state k.widths.world.state)
    (words_join (glyph_words_fit h k) (words_join (twilight_words_fit h k) (words_join (number_words k.widths.fixed.controls) (number_words k.widths.sheet)))))
    (trailer_words_fit (layout_for h) k.short))
    (more (low_small (sum_of (body_words h ++ trailer_words (layout_for h)))) none)

low_byte : (n : ℕ) → n % 256 < 256
low_byte n = omega arith

-- a record is bytes
words_bytes : (ws : List ℕ) → Bytes (bytes_of ws)
words_bytes [] = none-bytes
words_bytes (w ∷ ws) = more_bytes (low_byte w) (more_bytes (low_byte (w / 256)) (more_bytes (low_byte (w / 65536)) (more_bytes (low_byte (w / 16777216)) (words_bytes ws))))

pub record_bytes : (h : Held) → Bytes (record_of h)
unfolding record_of
record_bytes h = words_bytes (words_of h)

module _ (h : Held) (k : Keepable h) where
  fit : Words (words_of h)
  fit = words_fit_lem h k

  abbrev bs : List ℕ
  bs = b h k fit

  abbrev lay : Layout
  lay = layout_for h

  abbrev bod : List ℕ
  bod = body_words h

  abbrev sum_ws : List ℕ
  sum_ws = wrapping_sum (bod ++ trailer_words lay) ∷ []

  body_long : length bod ≡ at_trailer lay
  body_long =
      let cw = words_of_numbers h.fixed.controls in
      let sw = words_of_numbers h.sheet in
      let r : length (cw ++ sw) ≡ lay.controls + lay.words = joined_long cw sw (controls_long h k fit) (sheet_long h k fit) in
      let g : length (glyph_words h ++ (twilight_words h ++ (cw ++ sw))) ≡ length (glyph_words h) + (length (twilight_words h) + (lay.controls + lay.words)) =
      joined_long (glyph_words h) (twilight_words h ++ (cw ++ sw)) refl (joined_long (twilight_words h) (cw ++ sw) refl r) in
      let e : length bod ≡ state_size + (length (glyph_words h) + (length (twilight_words h) + (lay.controls + lay.words))) =
      joined_long (state_words h.world.state) (glyph_words h ++ (twilight_words h ++ (cw ++ sw))) (state_long h k fit) g in
      omega (arith, e, glyph_long h k fit, twilight_long h k fit)

  framed_long : length (bod ++ trailer_words lay) ≡ at_trailer lay + 7
  framed_long = joined_long bod (trailer_words lay) body_long refl

  all_long : length (words_of h) ≡ at_trailer lay + 7 + 1
  all_long = joined_long (bod ++ trailer_words lay) sum_ws framed_long refl

  bytes_long : length bs ≡ (at_trailer lay + 8) * 4
  bytes_long = omega (arith, bytes_length (words_of h), all_long)

  -- as many bytes as the layout says
  pub record_long : length (record_of h) ≡ record_size lay
  unfolding record_of
  record_long = bytes_long

  count_is : word_count bs ≡ at_trailer lay + 8
  count_is = omega (arith, bytes_long)

  whole_lies : Lies bs 0 (words_of h)
  whole_lies = lies_all (words_of h) fit

  framed_lies : Lies bs 0 (bod ++ trailer_words lay)
  framed_lies = lies_left bs 0 (bod ++ trailer_words lay) sum_ws whole_lies

  sum_lies : Lies bs (0 + length (bod ++ trailer_words lay)) sum_ws
  sum_lies = lies_right bs 0 (bod ++ trailer_words lay) sum_ws whole_lies

  trailer_lies : Lies bs (0 + length bod) (trailer_words lay)
  trailer_lies = lies_right bs 0 bod (trailer_words lay) framed_lies

  place : (j p : ℕ) → word_count bs - 8 + j ≡ p → trailer_word bs j ≡ word bs p
  place j p e = ap (word bs) e

  abbrev t : ℕ
  t = 0 + length bod

  nth : (j : ℕ) → get_or (part bs t 7) j 0 ≡ get_or (trailer_words lay) j 0
  nth j = ap (λ (xs : List ℕ). get_or xs j 0) trailer_lies

  edition_same : trailer_word bs 5 ≡ edition
  edition_same = place 5 (suc (suc (suc (suc (suc t))))) (omega (arith, count_is, body_long)) ∙ nth 5

  all_kept : kept_in bs ≡ state_size
  all_kept = ap kept_by edition_same

  layout_same : layout_of bs ≡ lay
  layout_same =
      let c = count_is in
      let d = body_long in
      same_layout all_kept (place 0 t (omega (arith, c, d)) ∙ nth 0) (place 1 (suc t) (omega (arith, c, d)) ∙ nth 1) (place 2 (suc (suc t)) (omega (arith, c, d)) ∙ nth 2)
      (place 3 (suc (suc (suc t))) (omega (arith, c, d)) ∙ nth 3) (place 4 (suc (suc (suc (suc t)))) (omega (arith, c, d)) ∙ nth 4)

  back_same : trailer_word bs 6 ≡ at_trailer lay * 4
  back_same =
      let e : trailer_word bs 6 ≡ at_trailer lay * 4 % 2 ^ 32 = place 6 (suc (suc (suc (suc (suc (suc t)))))) (omega (arith, count_is, body_long)) ∙ nth 6 in
      omega (arith, e, k.short)

  frame_holds : framed bs ≡ true
  frame_holds =
      both (both (both (eq-eqb (length bs % 4) 0 (omega (arith, bytes_long))) (le-leb trailer_size (word_count bs) (omega (arith, count_is)))) (ap counts_fit layout_same ∙ counts_fit_lem h k))
      (ap (trailer_fits bs) layout_same
      ∙ both (both (eq-eqb (at_trailer lay + trailer_size) (word_count bs) (sym count_is)) refl) (eq-eqb (trailer_word bs 6) (at_trailer lay * 4) back_same))

  words_hold : words_fit bs (layout_of bs) ≡ true
  words_hold =
      ap (words_fit bs) layout_same
      ∙ both (both (both
      (ap is_state (state_same h k fit all_kept) ∙ state_is h.world.state)
      (ap (all_at_most 255) (lies_at bs h.world.gflags (list_place lay 6) lay.points (flags_at h k fit) (sym (flags_long h k fit)) (flags_lies h k fit)) ∙ flags_within k.widths.world.gflags))
      (ap (all_at_most 65535) (lies_at bs h.fixed.contours (list_place lay 7) lay.contours (ends_at h k fit) refl (ends_lies h k fit)) ∙ ends_within k.widths.fixed.contours))
      (ap (all_at_most 255) (lies_at bs h.world.tflags (list_place lay 12) lay.twilight (twilight_flags_at h k fit) (sym (twilight_flags_long h k fit)) (twilight_flags_lies h k fit)) ∙ flags_within k.widths.world.tflags)

  sum_holds : sum_fits bs ≡ true
  sum_holds =
      let e : word_count bs - 1 ≡ length (bod ++ trailer_words lay) = omega (arith, count_is, framed_long) in
      let p : word_count bs - 8 + 7 ≡ 0 + length (bod ++ trailer_words lay) = omega (arith, count_is, framed_long) in
      eq-eqb (wrapping_sum (part bs 0 (word_count bs - 1))) (trailer_word bs 7)
      (ap wrapping_sum (ap (part bs 0) e ∙ framed_lies) ∙ sym (place 7 _ p ∙ ap (λ (xs : List ℕ). get_or xs 0 0) sum_lies))

  opens : open_of bs ≡ Ok lay
  unfolding open_of
  opens =
      ap (λ (x : Bool). verdict (layout_of bs) x (framed bs && words_fit bs (layout_of bs)) (sum_fits bs)) (le-leb (length bs) most_bytes (omega (arith, bytes_long, k.short)))
      ∙ ap₂ (λ (x y : Bool). verdict (layout_of bs) true x y) (both frame_holds words_hold) sum_holds
      ∙ ap Ok layout_same

  -- what is written reads back as written
  pub kept_as_written : read_of (record_of h) ≡ Kept h
  unfolding record_of
  kept_as_written = ap (read_as bs) opens ∙ ap Kept (read_as_written h k fit all_kept)
