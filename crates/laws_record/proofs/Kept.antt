-- What is read is written again: `words_kept` holds of every byte string that `read_of` keeps, whatever its edition: the state's words, completed where the
-- edition is older, and all that stood between them and the trailer. Of the newest edition it is the same bytes: `written_as_read`. What older ones
-- are completed with is in `count_of_1` and Older.antt's `older_measures_lem`. Assumes nothing.
use Rattle.std.specs.Prelude.{Result, Ok, Err}
use Rattle.record_read.specs.declared.Damage.{Damage}
use mathlib.Core.Bool.{true}
use mathlib.Core.List.{List, [], ◌++◌, append-nil}
use mathlib.Core.Path.{◌∙◌, ◌≡◌, ap, ap₂, refl, subst, sym}
use Prim.Native.Nat.{◌%◌, ◌*◌, ◌+◌, ◌-◌, ◌<◌, ◌^◌, suc, zero, ℕ}
use native.Mathlib.Omega.{arith}
use lib.IntN.{pos, ℤ}
use lib.ListN.{drop, get_or, length}
use Rattle.graphics.specs.State.{fresh_state}
use Rattle.graphics.specs.declared.GraphicsState.{GraphicsState}
use Rattle.graphics.specs.declared.Measures.{Measures}
use Rattle.int.specs.Word.{of_bits}
use Rattle.state_words.specs.Words.{state_of, state_size, state_words}
use Rattle.state_words.proofs.Back.{cons, written_read}
use Rattle.words.specs.Lists.{bytes_of, end_of, numbers_of, part, word, words_of_numbers, wrapping_sum}
use Rattle.words.proofs.Back.{Bytes, bytes_back, part_fits, part_join, word_fits}
use Rattle.words.proofs.Parts.{mapped_length}
use Rattle.record_read.specs.Format.{Held, body_words, glyph_words, layout_for, record_of, trailer_words, twilight_words, words_of}
use Rattle.record_read.specs.Read.{Kept, held_in, kept_by, kept_in, layout_of, open_of, read_as, read_of, state_in, trailer_word, word_count}
use Rattle.record_layout.specs.Order.{at_trailer, edition, list_place, trailer_size}
use Rattle.record_layout.specs.declared.Layout.{Layout}
use Rattle.laws_record.proofs.States.{state_words_lem}
use Rattle.laws_record.proofs.Whence.{refused_or_kept}
use Rattle.laws_record.proofs.Values.{ends_back, flags_back, numbers_back, words_at}
use Rattle.record_read.proofs.Whole.{Sound, layout_is, sound}

-- ---- the state's words, by edition
all_kept : (bytes : List ℕ) → trailer_word bytes 5 ≡ edition → state_in bytes ≡ part bytes 0 state_size
unfolding state_words
all_kept bytes e = ap (λ (k : ℕ). part bytes 0 (kept_by k) ++ drop (kept_by k) (state_words fresh_state)) e ∙ append-nil (part bytes 0 state_size)

no_count : (bytes : List ℕ) → trailer_word bytes 5 ≡ 1 → (state_of (state_in bytes)).tallies.wrapped_roundings ≡ 0
unfolding state_of state_words
no_count bytes e = ap (λ (k : ℕ). get_or (part bytes 0 (kept_by k) ++ drop (kept_by k) (state_words fresh_state)) 26 0) e

-- "64, 0, 0, yes, 0", beside the cut-in
abbrev older_measures : ℤ → Measures
older_measures cut =
    record { cut_in = cut; minimum_distance = pos 64; single_width = pos 0; single_width_cut_in = pos 0; auto_flip = true; scale = pos 0 }

-- and nothing pushed: "0, 0"
pub record Older (s : GraphicsState) : Type 0 where
  pub measures : s.measures ≡ older_measures s.measures.cut_in
  pub last_pushed : s.tallies.last_pushed ≡ pos 0
  pub pushes : s.tallies.pushes ≡ 0

pub older_state : (bytes : List ℕ) (k : ℕ) → k < edition → Older (state_of (part bytes 0 (kept_by k) ++ drop (kept_by k) (state_words fresh_state)))
unfolding state_of state_words
older_state bytes zero h = record { measures = refl; last_pushed = refl; pushes = refl }
older_state bytes (suc zero) h = record { measures = refl; last_pushed = refl; pushes = refl }
older_state bytes (suc (suc zero)) h = record { measures = refl; last_pushed = refl; pushes = refl }
older_state bytes (suc (suc (suc k))) h = absurd (omega arith)

zero_on : (k : ℕ) → k ≡ 0 + k
zero_on k = omega arith

module _ (bytes : List ℕ) (f : Bytes bytes) where
  abbrev at : ℕ → ℕ → List ℕ
  at first count = part bytes first count

  -- two lists that follow each other
  cat : {xs ys : List ℕ} (first m n : ℕ) → xs ≡ at first m → ys ≡ at (first + m) n → xs ++ ys ≡ at first (m + n)
  cat first m n e g = ap₂ (λ (a b : List ℕ). a ++ b) e g ∙ part_join bytes first m n

  numbers : (first count : ℕ) → words_of_numbers (numbers_of (at first count)) ≡ at first count
  numbers first count = numbers_back (at first count) (part_fits bytes first count f)

  abbrev l : Layout
  l = layout_of bytes

  abbrev h : Held
  h = held_in bytes l

  module _ (s : Sound bytes l) where
    abbrev n : ℕ
    n = l.points

    abbrev c : ℕ
    c = l.contours

    abbrev m : ℕ
    m = l.twilight

    abbrev glyph_size : ℕ
    glyph_size = n + (n + (n + (n + (n + (n + (n + c))))))

    abbrev twilight_size : ℕ
    twilight_size = m + (m + (m + (m + m)))

    abbrev rest_size : ℕ
    rest_size = l.controls + l.words

    glyph_is : glyph_words h ≡ at (list_place l 0) glyph_size
    glyph_is =
        cat (list_place l 0) n _ (numbers (list_place l 0) n)
        (cat (list_place l 1) n _ (numbers (list_place l 1) n)
        (cat (list_place l 2) n _ (numbers (list_place l 2) n)
        (cat (list_place l 3) n _ (numbers (list_place l 3) n)
        (cat (list_place l 4) n _ (numbers (list_place l 4) n)
        (cat (list_place l 5) n _ (numbers (list_place l 5) n)
        (cat (list_place l 6) n c (flags_back (at (list_place l 6) n) s.flags_are) (ends_back (at (list_place l 7) c) s.ends_are)))))))

    twilight_is : twilight_words h ≡ at (list_place l 8) twilight_size
    twilight_is =
        cat (list_place l 8) m _ (numbers (list_place l 8) m)
        (cat (list_place l 9) m _ (numbers (list_place l 9) m)
        (cat (list_place l 10) m _ (numbers (list_place l 10) m)
        (cat (list_place l 11) m m (numbers (list_place l 11) m) (flags_back (at (list_place l 12) m) s.twilight_are))))

    rest_is : words_of_numbers h.fixed.controls ++ words_of_numbers h.sheet ≡ at (list_place l 13) (l.controls + l.words)
    rest_is = cat (list_place l 13) l.controls l.words (numbers (list_place l 13) l.controls) (numbers (list_place l 14) l.words)

    state_back : state_words (state_of (state_in bytes)) ≡ state_in bytes
    state_back = written_read (state_in bytes) s.state_is (λ k. words_at (state_in bytes) k (state_words_lem bytes f))

    -- the lists, from the state to the trailer
    lists_are : glyph_words h ++ (twilight_words h ++ (words_of_numbers h.fixed.controls ++ words_of_numbers h.sheet)) ≡ at l.state (at_trailer l - l.state)
    lists_are =
        let b : list_place l 8 ≡ l.state + glyph_size = omega arith in
        let d : list_place l 13 ≡ l.state + glyph_size + twilight_size = omega arith in
        let all : glyph_size + (twilight_size + rest_size) ≡ at_trailer l - l.state = omega arith in
        cat l.state glyph_size (twilight_size + rest_size) glyph_is
        (cat (l.state + glyph_size) twilight_size rest_size (twilight_is ∙ ap (λ (k : ℕ). at k twilight_size) b) (rest_is ∙ ap (λ (k : ℕ). at k rest_size) d))
        ∙ ap (at l.state) all

    body_kept : body_words h ≡ state_in bytes ++ at (kept_in bytes) (word_count bytes - trailer_size - kept_in bytes)
    body_kept =
        let e : at_trailer l - l.state ≡ word_count bytes - trailer_size - kept_in bytes = omega (arith, s.adds_up) in
        ap₂ (λ (a b : List ℕ). a ++ b) state_back (lists_are ∙ ap (at (kept_in bytes)) e)

    -- ---- of the newest edition
    module _ (newest : trailer_word bytes 5 ≡ edition) where
      all_words : l.state ≡ state_size
      all_words = ap kept_by newest

      body_is : body_words h ≡ at 0 (at_trailer l)
      body_is =
          let all : state_size + (at_trailer l - l.state) ≡ at_trailer l = omega (arith, all_words) in
          cat 0 state_size (at_trailer l - l.state) (state_back ∙ all_kept bytes newest) (lists_are ∙ ap (λ (j : ℕ). at j (at_trailer l - l.state)) all_words)
          ∙ ap (at 0) all

      -- ---- the trailer
      place : (k j : ℕ) → word_count bytes - 8 + k ≡ j → trailer_word bytes k ≡ word bytes j
      place k j e = ap (word bytes) e

      abbrev t : ℕ
      t = at_trailer l

      points_are : length h.world.gx ≡ n
      points_are = mapped_length of_bits bytes (list_place l 4) n

      contours_are : length h.fixed.contours ≡ c
      contours_are = mapped_length end_of bytes (list_place l 7) c

      twilight_are : length h.world.tx ≡ m
      twilight_are = mapped_length of_bits bytes (list_place l 10) m

      controls_are : length h.fixed.controls ≡ l.controls
      controls_are = mapped_length of_bits bytes (list_place l 13) l.controls

      words_are : length h.sheet ≡ l.words
      words_are = mapped_length of_bits bytes (list_place l 14) l.words

      same_trailer : at_trailer (layout_for h) ≡ t
      same_trailer = omega (arith, all_words, points_are, contours_are, twilight_are, controls_are, words_are)

      way_back : at_trailer (layout_for h) * 4 % 2 ^ 32 ≡ trailer_word bytes 6
      way_back =
          let small : trailer_word bytes 6 < 2 ^ 32 = word_fits bytes (word_count bytes - 8 + 6) f in
          omega (arith, same_trailer, s.back_is, small)

      trailer_is : trailer_words (layout_for h) ≡ at t 7
      trailer_is =
          let u = s.adds_up in
          cons (points_are ∙ place 0 t (omega (arith, u)))
          (cons (contours_are ∙ place 1 (suc t) (omega (arith, u)))
          (cons (twilight_are ∙ place 2 (suc (suc t)) (omega (arith, u)))
          (cons (controls_are ∙ place 3 (suc (suc (suc t))) (omega (arith, u)))
          (cons (words_are ∙ place 4 (suc (suc (suc (suc t)))) (omega (arith, u)))
          (cons (sym newest ∙ place 5 (suc (suc (suc (suc (suc t))))) (omega (arith, u)))
          (cons (way_back ∙ place 6 (suc (suc (suc (suc (suc (suc t)))))) (omega (arith, u))) refl))))))

      before_sum : body_words h ++ trailer_words (layout_for h) ≡ at 0 (t + 7)
      before_sum = cat 0 t 7 body_is (trailer_is ∙ ap (λ (k : ℕ). at k 7) (zero_on t))

      sum_is : wrapping_sum (body_words h ++ trailer_words (layout_for h)) ≡ word bytes (0 + (t + 7))
      sum_is =
          let e : t + 7 ≡ word_count bytes - 1 = omega (arith, s.adds_up) in
          ap wrapping_sum (before_sum ∙ ap (at 0) e) ∙ s.sum_is ∙ place 7 (0 + (t + 7)) (omega (arith, s.adds_up))

      words_is : words_of h ≡ at 0 (t + 7 + 1)
      words_is = cat 0 (t + 7) 1 before_sum (cons sum_is refl)

      record_is : record_of h ≡ bytes
      unfolding record_of
      record_is = ap bytes_of words_is ∙ bytes_back bytes (t + 7 + 1) f (omega (arith, s.adds_up, s.length_is))

-- ---- over every byte string
-- what was read, and that the bytes are sound
pub sound_held : (bytes : List ℕ) (o : Result Layout Damage) → open_of bytes ≡ o → (h : Held) → read_as bytes o ≡ Kept h → (held_in bytes (layout_of bytes) ≡ h) × Sound bytes (layout_of bytes)
sound_held bytes (Ok l) e h k = (ap (held_in bytes) (layout_is bytes l e) ∙ cc k, sound bytes l e)
sound_held bytes (Err why) e h k = absurd (refused_or_kept k)

-- what is read is written with the words that stood before the trailer, the state's completed
pub words_kept : (bytes : List ℕ) → Bytes bytes → (h : Held) → read_of bytes ≡ Kept h
    → body_words h ≡ state_in bytes ++ part bytes (kept_in bytes) (word_count bytes - trailer_size - kept_in bytes)
words_kept bytes f h e = let r = sound_held bytes (open_of bytes) refl h e in ap body_words (sym r.0) ∙ body_kept bytes f r.1

-- and of the newest edition as the same bytes
pub written_as_read : (bytes : List ℕ) → Bytes bytes → (h : Held) → read_of bytes ≡ Kept h → trailer_word bytes 5 ≡ edition → record_of h ≡ bytes
written_as_read bytes f h e newest = let r = sound_held bytes (open_of bytes) refl h e in ap record_of (sym r.0) ∙ record_is bytes f r.1 newest

-- edition 1 has no count, and it is 0
pub count_of_1 : (bytes : List ℕ) (h : Held) → read_of bytes ≡ Kept h → trailer_word bytes 5 ≡ 1 → h.world.state.tallies.wrapped_roundings ≡ 0
count_of_1 bytes h e one =
    let r = sound_held bytes (open_of bytes) refl h e in
    ap (λ (g : Held). g.world.state.tallies.wrapped_roundings) (sym r.0) ∙ no_count bytes one
