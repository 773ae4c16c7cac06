-- What is stored part by part is the whole record stored at once: each list begins where the one before it ends, so lists stored one behind the
-- other are one list, and the last sum is that of the words before it. Assumes nothing.
use mathlib.Core.Bool.{true}
use mathlib.Core.List.{List, [], ◌++◌, ◌∷◌}
use mathlib.Core.Path.{◌∙◌, ◌≡◌, ap, ap₂, refl, sym}
use Prim.Native.Nat.{◌*◌, ◌+◌, ◌≤◌, ℕ}
use native.Mathlib.Omega.{arith}
use lib.ListN.{drop, length, length-append, length-map}
use lib.IntN.{ℤ}
use Rattle.graphics.specs.declared.GraphicsState.{GraphicsState}
use Rattle.int.specs.Word.{bits_of}
use Rattle.state_words.specs.Words.{state_size, state_words}
use Rattle.words.specs.Lists.{bytes_of, part, placed, words_of_numbers, wrapping_sum}
use Rattle.words.proofs.Sums.{written_sum}
use Rattle.line.proofs.Alike.{fits_alike}
use Rattle.line.specs.Sizes.{world_fits}
use Rattle.record_layout.specs.Order.{at_trailer, list_place, record_size, trailer_size}
use Rattle.record_layout.specs.declared.Layout.{Layout}
use Rattle.record_read.specs.Format.{Held, body_words, glyph_words, layout_for, record_of, trailer_words, twilight_words, words_of}
use Rattle.record_write.specs.Steps.{sum_place, with_counts, with_currents, with_originals, with_record, with_sources, with_state, with_sum, with_trailer, with_twilight}
use Rattle.record_write.proofs.Placing.{placed_front, placed_join, placed_size}

-- ---- lists one behind the other
abbrev stacked : ℕ → List ℕ → List (List ℕ) → List ℕ → List ℕ
stacked first us [] l = placed first us l
stacked first us (vs ∷ rest) l = stacked (first + length us) vs rest (placed first us l)

abbrev flat : List ℕ → List (List ℕ) → List ℕ
flat us [] = us
flat us (vs ∷ rest) = us ++ flat vs rest

stacked_flat : (first : ℕ) (us : List ℕ) (rest : List (List ℕ)) (l : List ℕ) → (first + length (flat us rest)) * 4 ≤ length l → stacked first us rest l ≡ placed first (flat us rest) l
stacked_flat first us [] l h = refl
stacked_flat first us (vs ∷ rest) l h =
    let n = length-append us (flat vs rest) in
    let all : (first + length us + length (flat vs rest)) * 4 ≤ length l = omega (arith, n, h) in
    stacked_flat (first + length us) vs rest (placed first us l) (omega (arith, all, placed_size first us l)) ∙ placed_join first us (flat vs rest) l all

-- ---- the lengths of lists as words
state_count : (s : GraphicsState) → length (state_words s) ≡ state_size
unfolding state_words
state_count s = refl

number_count : (zs : List ℤ) → length (words_of_numbers zs) ≡ length zs
number_count zs = length-map zs bits_of

-- what the lists of a layout are, in length
pub record Sized (h : Held) (l : Layout) : Type 0 where
  pub state : length (state_words h.world.state) ≡ l.state
  pub gux : length (words_of_numbers h.fixed.gux) ≡ l.points
  pub guy : length (words_of_numbers h.fixed.guy) ≡ l.points
  pub gox : length (words_of_numbers h.fixed.gox) ≡ l.points
  pub goy : length (words_of_numbers h.fixed.goy) ≡ l.points
  pub gx : length (words_of_numbers h.world.gx) ≡ l.points
  pub gy : length (words_of_numbers h.world.gy) ≡ l.points
  pub gflags : length h.world.gflags ≡ l.points
  pub contours : length h.fixed.contours ≡ l.contours
  pub tox : length (words_of_numbers h.world.tox) ≡ l.twilight
  pub toy : length (words_of_numbers h.world.toy) ≡ l.twilight
  pub tx : length (words_of_numbers h.world.tx) ≡ l.twilight
  pub ty : length (words_of_numbers h.world.ty) ≡ l.twilight
  pub tflags : length h.world.tflags ≡ l.twilight
  pub controls : length (words_of_numbers h.fixed.controls) ≡ l.controls
  pub sheet : length (words_of_numbers h.sheet) ≡ l.words

pub sized : (h : Held) → world_fits h.fixed h.sheet h.world ≡ true → Sized h (layout_for h)
sized h e =
    let f = h.fixed in
    let w = h.world in
    let a = fits_alike f h.sheet w e in
    record {
      state = state_count w.state;
      gux = number_count f.gux ∙ a.0;
      guy = number_count f.guy ∙ a.1;
      gox = number_count f.gox ∙ a.2;
      goy = number_count f.goy ∙ a.3;
      gx = number_count w.gx;
      gy = number_count w.gy ∙ a.4;
      gflags = a.5;
      contours = refl;
      tox = number_count w.tox ∙ a.9;
      toy = number_count w.toy ∙ a.6 ∙ a.9;
      tx = number_count w.tx;
      ty = number_count w.ty ∙ a.7;
      tflags = a.8;
      controls = number_count f.controls;
      sheet = number_count h.sheet;
    }

-- the next place
next : {at at' n n' : ℕ} → at ≡ at' → n ≡ n' → at + n ≡ at' + n'
next e g = ap₂ (λ (a b : ℕ). a + b) e g

-- ---- the parts of a record, each as one list
module _ (h : Held) (l : Layout) (s : Sized h l) (bytes : List ℕ) (room : record_size l ≤ length bytes) where
  pub glyph_ends : list_place l 0 + length (glyph_words h) ≡ list_place l 8
  glyph_ends =
      omega (arith, length-append (words_of_numbers h.fixed.gux) ((words_of_numbers h.fixed.guy) ++ ((words_of_numbers h.fixed.gox) ++ ((words_of_numbers h.fixed.goy) ++ ((words_of_numbers h.world.gx) ++ ((words_of_numbers h.world.gy) ++ (h.world.gflags ++ (h.fixed.contours))))))), length-append (words_of_numbers h.fixed.guy) ((words_of_numbers h.fixed.gox) ++ ((words_of_numbers h.fixed.goy) ++ ((words_of_numbers h.world.gx) ++ ((words_of_numbers h.world.gy) ++ (h.world.gflags ++ (h.fixed.contours)))))), length-append (words_of_numbers h.fixed.gox) ((words_of_numbers h.fixed.goy) ++ ((words_of_numbers h.world.gx) ++ ((words_of_numbers h.world.gy) ++ (h.world.gflags ++ (h.fixed.contours))))), length-append (words_of_numbers h.fixed.goy) ((words_of_numbers h.world.gx) ++ ((words_of_numbers h.world.gy) ++ (h.world.gflags ++ (h.fixed.contours)))), length-append (words_of_numbers h.world.gx) ((words_of_numbers h.world.gy) ++ (h.world.gflags ++ (h.fixed.contours))), length-append (words_of_numbers h.world.gy) (h.world.gflags ++ (h.fixed.contours)), length-append h.world.gflags (h.fixed.contours), s.gux, s.guy, s.gox, s.goy, s.gx, s.gy, s.gflags, s.contours)

  pub glyph_joined : with_currents l h.world.gx h.world.gy h.world.gflags h.fixed.contours (with_originals l h.fixed.gux h.fixed.guy h.fixed.gox h.fixed.goy bytes) ≡ placed (list_place l 0) (glyph_words h) bytes
  unfolding with_currents with_originals
  glyph_joined =
      let p1 : list_place l 0 + length (words_of_numbers h.fixed.gux) ≡ list_place l 1 = next refl s.gux in
      let p2 : list_place l 0 + length (words_of_numbers h.fixed.gux) + length (words_of_numbers h.fixed.guy) ≡ list_place l 2 = next p1 s.guy in
      let p3 : list_place l 0 + length (words_of_numbers h.fixed.gux) + length (words_of_numbers h.fixed.guy) + length (words_of_numbers h.fixed.gox) ≡ list_place l 3 = next p2 s.gox in
      let p4 : list_place l 0 + length (words_of_numbers h.fixed.gux) + length (words_of_numbers h.fixed.guy) + length (words_of_numbers h.fixed.gox) + length (words_of_numbers h.fixed.goy) ≡ list_place l 4 = next p3 s.goy in
      let p5 : list_place l 0 + length (words_of_numbers h.fixed.gux) + length (words_of_numbers h.fixed.guy) + length (words_of_numbers h.fixed.gox) + length (words_of_numbers h.fixed.goy) + length (words_of_numbers h.world.gx) ≡ list_place l 5 = next p4 s.gx in
      let p6 : list_place l 0 + length (words_of_numbers h.fixed.gux) + length (words_of_numbers h.fixed.guy) + length (words_of_numbers h.fixed.gox) + length (words_of_numbers h.fixed.goy) + length (words_of_numbers h.world.gx) + length (words_of_numbers h.world.gy) ≡ list_place l 6 = next p5 s.gy in
      let p7 : list_place l 0 + length (words_of_numbers h.fixed.gux) + length (words_of_numbers h.fixed.guy) + length (words_of_numbers h.fixed.gox) + length (words_of_numbers h.fixed.goy) + length (words_of_numbers h.world.gx) + length (words_of_numbers h.world.gy) + length h.world.gflags ≡ list_place l 7 = next p6 s.gflags in
      let one : with_currents l h.world.gx h.world.gy h.world.gflags h.fixed.contours (with_originals l h.fixed.gux h.fixed.guy h.fixed.gox h.fixed.goy bytes) ≡ stacked (list_place l 0) (words_of_numbers h.fixed.gux) ((words_of_numbers h.fixed.guy) ∷ (words_of_numbers h.fixed.gox) ∷ (words_of_numbers h.fixed.goy) ∷ (words_of_numbers h.world.gx) ∷ (words_of_numbers h.world.gy) ∷ h.world.gflags ∷ h.fixed.contours ∷ []) bytes = cc (p1, p2, p3, p4, p5, p6, p7) in
      one ∙ stacked_flat (list_place l 0) (words_of_numbers h.fixed.gux) ((words_of_numbers h.fixed.guy) ∷ (words_of_numbers h.fixed.gox) ∷ (words_of_numbers h.fixed.goy) ∷ (words_of_numbers h.world.gx) ∷ (words_of_numbers h.world.gy) ∷ h.world.gflags ∷ h.fixed.contours ∷ []) bytes (omega (arith, glyph_ends, room))

  pub twilight_ends : list_place l 8 + length (twilight_words h) ≡ list_place l 13
  twilight_ends =
      omega (arith, length-append (words_of_numbers h.world.tox) ((words_of_numbers h.world.toy) ++ ((words_of_numbers h.world.tx) ++ ((words_of_numbers h.world.ty) ++ (h.world.tflags)))), length-append (words_of_numbers h.world.toy) ((words_of_numbers h.world.tx) ++ ((words_of_numbers h.world.ty) ++ (h.world.tflags))), length-append (words_of_numbers h.world.tx) ((words_of_numbers h.world.ty) ++ (h.world.tflags)), length-append (words_of_numbers h.world.ty) (h.world.tflags), s.tox, s.toy, s.tx, s.ty, s.tflags)

  pub twilight_joined : with_twilight l h.world.tox h.world.toy h.world.tx h.world.ty h.world.tflags bytes ≡ placed (list_place l 8) (twilight_words h) bytes
  unfolding with_twilight
  twilight_joined =
      let p1 : list_place l 8 + length (words_of_numbers h.world.tox) ≡ list_place l 9 = next refl s.tox in
      let p2 : list_place l 8 + length (words_of_numbers h.world.tox) + length (words_of_numbers h.world.toy) ≡ list_place l 10 = next p1 s.toy in
      let p3 : list_place l 8 + length (words_of_numbers h.world.tox) + length (words_of_numbers h.world.toy) + length (words_of_numbers h.world.tx) ≡ list_place l 11 = next p2 s.tx in
      let p4 : list_place l 8 + length (words_of_numbers h.world.tox) + length (words_of_numbers h.world.toy) + length (words_of_numbers h.world.tx) + length (words_of_numbers h.world.ty) ≡ list_place l 12 = next p3 s.ty in
      let one : with_twilight l h.world.tox h.world.toy h.world.tx h.world.ty h.world.tflags bytes ≡ stacked (list_place l 8) (words_of_numbers h.world.tox) ((words_of_numbers h.world.toy) ∷ (words_of_numbers h.world.tx) ∷ (words_of_numbers h.world.ty) ∷ h.world.tflags ∷ []) bytes = cc (p1, p2, p3, p4) in
      one ∙ stacked_flat (list_place l 8) (words_of_numbers h.world.tox) ((words_of_numbers h.world.toy) ∷ (words_of_numbers h.world.tx) ∷ (words_of_numbers h.world.ty) ∷ h.world.tflags ∷ []) bytes (omega (arith, twilight_ends, room))

  pub sources_ends : list_place l 13 + length (words_of_numbers h.fixed.controls ++ words_of_numbers h.sheet) ≡ at_trailer l
  sources_ends =
      omega (arith, length-append (words_of_numbers h.fixed.controls) ((words_of_numbers h.sheet)), s.controls, s.sheet)

  pub sources_joined : with_sources l h.fixed.controls h.sheet bytes ≡ placed (list_place l 13) (words_of_numbers h.fixed.controls ++ words_of_numbers h.sheet) bytes
  unfolding with_sources
  sources_joined =
      let p1 : list_place l 13 + length (words_of_numbers h.fixed.controls) ≡ list_place l 14 = next refl s.controls in
      let one : with_sources l h.fixed.controls h.sheet bytes ≡ stacked (list_place l 13) (words_of_numbers h.fixed.controls) ((words_of_numbers h.sheet) ∷ []) bytes = cc p1 in
      one ∙ stacked_flat (list_place l 13) (words_of_numbers h.fixed.controls) ((words_of_numbers h.sheet) ∷ []) bytes (omega (arith, sources_ends, room))

-- ---- the whole record
module _ (h : Held) (l : Layout) (s : Sized h l) (same : l ≡ layout_for h) (bytes : List ℕ) (room : record_size l ≤ length bytes) where
  abbrev state : List ℕ
  state = state_words h.world.state

  abbrev sources : List ℕ
  sources = words_of_numbers h.fixed.controls ++ words_of_numbers h.sheet

  abbrev b0 : List ℕ
  b0 = placed 0 state bytes

  abbrev b1 : List ℕ
  b1 = placed (list_place l 0) (glyph_words h) b0

  abbrev b2 : List ℕ
  b2 = placed (list_place l 8) (twilight_words h) b1

  room0 : record_size l ≤ length b0
  room0 = omega (arith, room, placed_size 0 state bytes)

  room1 : record_size l ≤ length b1
  room1 = omega (arith, room0, placed_size (list_place l 0) (glyph_words h) b0)

  room2 : record_size l ≤ length b2
  room2 = omega (arith, room1, placed_size (list_place l 8) (twilight_words h) b1)

  abbrev before_trailer : List ℕ
  before_trailer =
      with_sources l h.fixed.controls h.sheet
      (with_twilight l h.world.tox h.world.toy h.world.tx h.world.ty h.world.tflags
      (with_currents l h.world.gx h.world.gy h.world.gflags h.fixed.contours
      (with_originals l h.fixed.gux h.fixed.guy h.fixed.gox h.fixed.goy (with_state h.world.state bytes))))

  body_length : length (body_words h) ≡ at_trailer l
  body_length =
      omega (
        arith,
        length-append state (glyph_words h ++ (twilight_words h ++ sources)),
        length-append (glyph_words h) (twilight_words h ++ sources),
        length-append (twilight_words h) sources,
        s.state,
        glyph_ends h l s b0 room0,
        twilight_ends h l s b0 room0,
        sources_ends h l s b0 room0,
      )

  body_joined : before_trailer ≡ placed 0 (body_words h) bytes
  body_joined =
      let p1 : 0 + length state ≡ list_place l 0 = omega (arith, s.state) in
      let p2 : 0 + length state + length (glyph_words h) ≡ list_place l 8 = omega (arith, p1, glyph_ends h l s b0 room0) in
      let p3 : 0 + length state + length (glyph_words h) + length (twilight_words h) ≡ list_place l 13 = omega (arith, p2, twilight_ends h l s b0 room0) in
      ap (λ (b : List ℕ). with_sources l h.fixed.controls h.sheet (with_twilight l h.world.tox h.world.toy h.world.tx h.world.ty h.world.tflags b)) (glyph_joined h l s b0 room0)
      ∙ ap (with_sources l h.fixed.controls h.sheet) (twilight_joined h l s b1 room1)
      ∙ sources_joined h l s b2 room2
      ∙ cc (p1, p2, p3)
      ∙ stacked_flat 0 state (glyph_words h ∷ twilight_words h ∷ sources ∷ []) bytes (omega (arith, body_length, room))

  abbrev framed : List ℕ
  framed = body_words h ++ trailer_words l

  framed_length : 0 + length framed ≡ sum_place l
  framed_length = omega (arith, length-append (body_words h) (trailer_words l), body_length)

  framed_joined : with_counts l before_trailer ≡ placed 0 framed bytes
  framed_joined =
      let p : at_trailer l ≡ 0 + length (body_words h) = omega (arith, body_length) in
      ap₂ (λ (at : ℕ) (b : List ℕ). placed at (trailer_words l) b) p body_joined
      ∙ placed_join 0 (body_words h) (trailer_words l) bytes (omega (arith, body_length, room))

  sum_is : wrapping_sum (part (placed 0 framed bytes) 0 (sum_place l)) ≡ wrapping_sum framed
  sum_is =
      let n : sum_place l ≡ length framed = omega (arith, framed_length) in
      ap₂ (λ (b : List ℕ) (n : ℕ). wrapping_sum (part b 0 n)) (placed_front framed bytes (omega (arith, framed_length, room))) n
      ∙ written_sum framed (drop ((0 + length framed) * 4) bytes)

  record_joined : with_trailer l before_trailer ≡ placed 0 (framed ++ (wrapping_sum framed ∷ [])) bytes
  record_joined =
      ap (with_sum l) framed_joined
      ∙ ap₂ (λ (at w : ℕ). placed at (w ∷ []) (placed 0 framed bytes)) (sym framed_length) sum_is
      ∙ placed_join 0 framed (wrapping_sum framed ∷ []) bytes (omega (arith, framed_length, room))

  -- the stores leave the record at the front of the bytes
  pub stored_record : with_record l h bytes ≡ record_of h ++ drop (record_size l) bytes
  unfolding with_record record_of
  stored_record =
      let e : (0 + length (framed ++ (wrapping_sum framed ∷ []))) * 4 ≡ record_size l = omega (arith, length-append framed (wrapping_sum framed ∷ []), framed_length) in
      record_joined
      ∙ placed_front (framed ++ (wrapping_sum framed ∷ [])) bytes (omega (arith, e, room))
      ∙ ap₂ (λ (m : Layout) (n : ℕ). bytes_of ((body_words h ++ trailer_words m) ++ (wrapping_sum (body_words h ++ trailer_words m) ∷ [])) ++ drop n bytes) same e
