-- What is written reads back: the state and every list of a written record stand where its layout says. Assumes nothing.
use mathlib.Core.List.{List, [], ◌++◌, ◌∷◌, append-nil}
use mathlib.Core.Path.{◌∙◌, ◌≡◌, ap, ap₂, refl, sym}
use Prim.Native.Nat.{◌+◌, ℕ}
use native.Mathlib.Omega.{arith}
use lib.ListN.{drop, length, length-append}
use lib.IntN.{ℤ}
use Rattle.graphics.specs.State.{fresh_state}
use Rattle.graphics.specs.declared.GraphicsState.{GraphicsState}
use Rattle.state_words.specs.Words.{state_of, state_size, state_words}
use Rattle.state_words.proofs.Back.{read_written}
use Rattle.words.specs.Lists.{bytes_of, ends_of, flags_of, numbers_of, part, words_of_numbers, wrapping_sum}
use Rattle.words.proofs.Back.{Words}
use Rattle.record_read.specs.Format.{Held, body_words, glyph_words, layout_for, trailer_words, twilight_words, words_of}
use Rattle.record_layout.specs.Order.{list_place}
use Rattle.record_read.specs.Read.{held_in, kept_in, state_in}
use Rattle.record_layout.specs.declared.Layout.{Layout}
use Rattle.rules.specs.declared.Rules.{Rules}
use Rattle.line.specs.World.{Alike, fixed, world}
use Rattle.line.proofs.Alike.{fits_alike}
use Rattle.laws_record.proofs.Keepable.{Keepable}
use Rattle.laws_record.proofs.Lies.{Lies, ends_read as all-ends-read, flags_read as all-flags-read, lies_all, lies_at, lies_left, lies_right, number_count, numbers_read}

state_count : (s : GraphicsState) → length (state_words s) ≡ state_size
unfolding state_words
state_count s = refl

pub joined_long : (xs ys : List ℕ) {m n : ℕ} → length xs ≡ m → length ys ≡ n → length (xs ++ ys) ≡ m + n
joined_long xs ys e g = length-append xs ys ∙ ap₂ (λ (a b : ℕ). a + b) e g

abbrev held : Rules → GraphicsState → List ℤ → List ℤ → List ℤ → List ℤ → List ℤ → List ℤ → List ℕ → List ℕ → List ℤ → List ℤ → List ℤ → List ℤ → List ℕ → List ℤ → List ℤ → Held
held r s x0 x1 x2 x3 x4 x5 x6 x7 x8 x9 x10 x11 x12 x13 x14 = record { fixed = fixed r x13 x0 x1 x2 x3 x7; sheet = x14; world = world s x4 x5 x6 x8 x9 x10 x11 x12 }

same_held : {r r' : Rules} {s s' : GraphicsState} {x0 y0 : List ℤ} {x1 y1 : List ℤ} {x2 y2 : List ℤ} {x3 y3 : List ℤ} {x4 y4 : List ℤ} {x5 y5 : List ℤ} {x6 y6 : List ℕ} {x7 y7 : List ℕ} {x8 y8 : List ℤ} {x9 y9 : List ℤ} {x10 y10 : List ℤ} {x11 y11 : List ℤ} {x12 y12 : List ℕ} {x13 y13 : List ℤ} {x14 y14 : List ℤ} → r ≡ r' → s ≡ s' → x0 ≡ y0 → x1 ≡ y1 → x2 ≡ y2 → x3 ≡ y3 → x4 ≡ y4 → x5 ≡ y5 → x6 ≡ y6 → x7 ≡ y7 → x8 ≡ y8 → x9 ≡ y9 → x10 ≡ y10 → x11 ≡ y11 → x12 ≡ y12 → x13 ≡ y13 → x14 ≡ y14 → held r s x0 x1 x2 x3 x4 x5 x6 x7 x8 x9 x10 x11 x12 x13 x14 ≡ held r' s' y0 y1 y2 y3 y4 y5 y6 y7 y8 y9 y10 y11 y12 y13 y14
same_held d e e0 e1 e2 e3 e4 e5 e6 e7 e8 e9 e10 e11 e12 e13 e14 = cc

module _ (h : Held) (k : Keepable h) (fit : Words (words_of h)) where
  alike : Alike h.fixed h.world
  alike = fits_alike h.fixed h.sheet h.world k.sizes

  twilight_alike : length h.world.tox ≡ length h.world.tx
  twilight_alike = alike.9

  abbrev pub b : List ℕ
  b = bytes_of (words_of h)

  abbrev pub l : Layout
  l = layout_for h

  abbrev pub state_ws : List ℕ
  state_ws = state_words h.world.state

  abbrev pub rest_ws : List ℕ
  rest_ws = words_of_numbers h.fixed.controls ++ (words_of_numbers h.sheet)

  abbrev pub body : List ℕ
  body = body_words h

  pub body_lies : Lies b 0 body
  body_lies =
      lies_left b 0 body (trailer_words l)
      (lies_left b 0 (body ++ trailer_words l) (wrapping_sum (body ++ trailer_words l) ∷ []) (lies_all (words_of h) fit))

  pub state_lies : Lies b 0 state_ws
  state_lies = lies_left b 0 state_ws (glyph_words h ++ (twilight_words h ++ rest_ws)) body_lies

  abbrev pub g0 : ℕ
  g0 = 0 + length state_ws

  after_state : Lies b g0 (glyph_words h ++ (twilight_words h ++ rest_ws))
  after_state = lies_right b 0 state_ws (glyph_words h ++ (twilight_words h ++ rest_ws)) body_lies

  glyph_lies : Lies b g0 (glyph_words h)
  glyph_lies = lies_left b g0 (glyph_words h) (twilight_words h ++ rest_ws) after_state

  abbrev pub t0 : ℕ
  t0 = g0 + length (glyph_words h)

  after_glyph : Lies b t0 (twilight_words h ++ rest_ws)
  after_glyph = lies_right b g0 (glyph_words h) (twilight_words h ++ rest_ws) after_state

  twilight_lies : Lies b t0 (twilight_words h)
  twilight_lies = lies_left b t0 (twilight_words h) rest_ws after_glyph

  abbrev pub r0 : ℕ
  r0 = t0 + length (twilight_words h)

  rest_lies : Lies b r0 rest_ws
  rest_lies = lies_right b t0 (twilight_words h) rest_ws after_glyph

  unscaled_x_lies : Lies b (g0) (words_of_numbers h.fixed.gux)
  unscaled_x_lies = lies_left b (g0) (words_of_numbers h.fixed.gux) (words_of_numbers h.fixed.guy ++ (words_of_numbers h.fixed.gox ++ (words_of_numbers h.fixed.goy ++ (words_of_numbers h.world.gx ++ (words_of_numbers h.world.gy ++ (h.world.gflags ++ h.fixed.contours)))))) glyph_lies

  abbrev pub g1 : ℕ
  g1 = g0 + length (words_of_numbers h.fixed.gux)

  unscaled_x_rest : Lies b g1 (words_of_numbers h.fixed.guy ++ (words_of_numbers h.fixed.gox ++ (words_of_numbers h.fixed.goy ++ (words_of_numbers h.world.gx ++ (words_of_numbers h.world.gy ++ (h.world.gflags ++ h.fixed.contours))))))
  unscaled_x_rest = lies_right b (g0) (words_of_numbers h.fixed.gux) (words_of_numbers h.fixed.guy ++ (words_of_numbers h.fixed.gox ++ (words_of_numbers h.fixed.goy ++ (words_of_numbers h.world.gx ++ (words_of_numbers h.world.gy ++ (h.world.gflags ++ h.fixed.contours)))))) glyph_lies

  unscaled_y_lies : Lies b (g1) (words_of_numbers h.fixed.guy)
  unscaled_y_lies = lies_left b (g1) (words_of_numbers h.fixed.guy) (words_of_numbers h.fixed.gox ++ (words_of_numbers h.fixed.goy ++ (words_of_numbers h.world.gx ++ (words_of_numbers h.world.gy ++ (h.world.gflags ++ h.fixed.contours))))) unscaled_x_rest

  abbrev pub g2 : ℕ
  g2 = g1 + length (words_of_numbers h.fixed.guy)

  unscaled_y_rest : Lies b g2 (words_of_numbers h.fixed.gox ++ (words_of_numbers h.fixed.goy ++ (words_of_numbers h.world.gx ++ (words_of_numbers h.world.gy ++ (h.world.gflags ++ h.fixed.contours)))))
  unscaled_y_rest = lies_right b (g1) (words_of_numbers h.fixed.guy) (words_of_numbers h.fixed.gox ++ (words_of_numbers h.fixed.goy ++ (words_of_numbers h.world.gx ++ (words_of_numbers h.world.gy ++ (h.world.gflags ++ h.fixed.contours))))) unscaled_x_rest

  original_x_lies : Lies b (g2) (words_of_numbers h.fixed.gox)
  original_x_lies = lies_left b (g2) (words_of_numbers h.fixed.gox) (words_of_numbers h.fixed.goy ++ (words_of_numbers h.world.gx ++ (words_of_numbers h.world.gy ++ (h.world.gflags ++ h.fixed.contours)))) unscaled_y_rest

  abbrev pub g3 : ℕ
  g3 = g2 + length (words_of_numbers h.fixed.gox)

  original_x_rest : Lies b g3 (words_of_numbers h.fixed.goy ++ (words_of_numbers h.world.gx ++ (words_of_numbers h.world.gy ++ (h.world.gflags ++ h.fixed.contours))))
  original_x_rest = lies_right b (g2) (words_of_numbers h.fixed.gox) (words_of_numbers h.fixed.goy ++ (words_of_numbers h.world.gx ++ (words_of_numbers h.world.gy ++ (h.world.gflags ++ h.fixed.contours)))) unscaled_y_rest

  original_y_lies : Lies b (g3) (words_of_numbers h.fixed.goy)
  original_y_lies = lies_left b (g3) (words_of_numbers h.fixed.goy) (words_of_numbers h.world.gx ++ (words_of_numbers h.world.gy ++ (h.world.gflags ++ h.fixed.contours))) original_x_rest

  abbrev pub g4 : ℕ
  g4 = g3 + length (words_of_numbers h.fixed.goy)

  original_y_rest : Lies b g4 (words_of_numbers h.world.gx ++ (words_of_numbers h.world.gy ++ (h.world.gflags ++ h.fixed.contours)))
  original_y_rest = lies_right b (g3) (words_of_numbers h.fixed.goy) (words_of_numbers h.world.gx ++ (words_of_numbers h.world.gy ++ (h.world.gflags ++ h.fixed.contours))) original_x_rest

  current_x_lies : Lies b (g4) (words_of_numbers h.world.gx)
  current_x_lies = lies_left b (g4) (words_of_numbers h.world.gx) (words_of_numbers h.world.gy ++ (h.world.gflags ++ h.fixed.contours)) original_y_rest

  abbrev pub g5 : ℕ
  g5 = g4 + length (words_of_numbers h.world.gx)

  current_x_rest : Lies b g5 (words_of_numbers h.world.gy ++ (h.world.gflags ++ h.fixed.contours))
  current_x_rest = lies_right b (g4) (words_of_numbers h.world.gx) (words_of_numbers h.world.gy ++ (h.world.gflags ++ h.fixed.contours)) original_y_rest

  current_y_lies : Lies b (g5) (words_of_numbers h.world.gy)
  current_y_lies = lies_left b (g5) (words_of_numbers h.world.gy) (h.world.gflags ++ h.fixed.contours) current_x_rest

  abbrev pub g6 : ℕ
  g6 = g5 + length (words_of_numbers h.world.gy)

  current_y_rest : Lies b g6 (h.world.gflags ++ h.fixed.contours)
  current_y_rest = lies_right b (g5) (words_of_numbers h.world.gy) (h.world.gflags ++ h.fixed.contours) current_x_rest

  pub flags_lies : Lies b (g6) h.world.gflags
  flags_lies = lies_left b (g6) h.world.gflags h.fixed.contours current_y_rest

  abbrev pub g7 : ℕ
  g7 = g6 + length h.world.gflags

  flags_rest : Lies b g7 h.fixed.contours
  flags_rest = lies_right b (g6) h.world.gflags h.fixed.contours current_y_rest

  pub ends_lies : Lies b (g7) h.fixed.contours
  ends_lies = flags_rest

  twilight_original_x_lies : Lies b (t0) (words_of_numbers h.world.tox)
  twilight_original_x_lies = lies_left b (t0) (words_of_numbers h.world.tox) (words_of_numbers h.world.toy ++ (words_of_numbers h.world.tx ++ (words_of_numbers h.world.ty ++ h.world.tflags))) twilight_lies

  abbrev pub t1 : ℕ
  t1 = t0 + length (words_of_numbers h.world.tox)

  twilight_original_x_rest : Lies b t1 (words_of_numbers h.world.toy ++ (words_of_numbers h.world.tx ++ (words_of_numbers h.world.ty ++ h.world.tflags)))
  twilight_original_x_rest = lies_right b (t0) (words_of_numbers h.world.tox) (words_of_numbers h.world.toy ++ (words_of_numbers h.world.tx ++ (words_of_numbers h.world.ty ++ h.world.tflags))) twilight_lies

  twilight_original_y_lies : Lies b (t1) (words_of_numbers h.world.toy)
  twilight_original_y_lies = lies_left b (t1) (words_of_numbers h.world.toy) (words_of_numbers h.world.tx ++ (words_of_numbers h.world.ty ++ h.world.tflags)) twilight_original_x_rest

  abbrev pub t2 : ℕ
  t2 = t1 + length (words_of_numbers h.world.toy)

  twilight_original_y_rest : Lies b t2 (words_of_numbers h.world.tx ++ (words_of_numbers h.world.ty ++ h.world.tflags))
  twilight_original_y_rest = lies_right b (t1) (words_of_numbers h.world.toy) (words_of_numbers h.world.tx ++ (words_of_numbers h.world.ty ++ h.world.tflags)) twilight_original_x_rest

  twilight_x_lies : Lies b (t2) (words_of_numbers h.world.tx)
  twilight_x_lies = lies_left b (t2) (words_of_numbers h.world.tx) (words_of_numbers h.world.ty ++ h.world.tflags) twilight_original_y_rest

  abbrev pub t3 : ℕ
  t3 = t2 + length (words_of_numbers h.world.tx)

  twilight_x_rest : Lies b t3 (words_of_numbers h.world.ty ++ h.world.tflags)
  twilight_x_rest = lies_right b (t2) (words_of_numbers h.world.tx) (words_of_numbers h.world.ty ++ h.world.tflags) twilight_original_y_rest

  twilight_y_lies : Lies b (t3) (words_of_numbers h.world.ty)
  twilight_y_lies = lies_left b (t3) (words_of_numbers h.world.ty) h.world.tflags twilight_x_rest

  abbrev pub t4 : ℕ
  t4 = t3 + length (words_of_numbers h.world.ty)

  twilight_y_rest : Lies b t4 h.world.tflags
  twilight_y_rest = lies_right b (t3) (words_of_numbers h.world.ty) h.world.tflags twilight_x_rest

  pub twilight_flags_lies : Lies b (t4) h.world.tflags
  twilight_flags_lies = twilight_y_rest

  pub controls_lies : Lies b (r0) (words_of_numbers h.fixed.controls)
  controls_lies = lies_left b (r0) (words_of_numbers h.fixed.controls) (words_of_numbers h.sheet) rest_lies

  abbrev pub r1 : ℕ
  r1 = r0 + length (words_of_numbers h.fixed.controls)

  controls_rest : Lies b r1 (words_of_numbers h.sheet)
  controls_rest = lies_right b (r0) (words_of_numbers h.fixed.controls) (words_of_numbers h.sheet) rest_lies

  pub sheet_lies : Lies b (r1) (words_of_numbers h.sheet)
  sheet_lies = controls_rest

  -- how long each list is, as words
  unscaled_x_long : length (words_of_numbers h.fixed.gux) ≡ l.points
  unscaled_x_long = number_count h.fixed.gux ∙ alike.0

  unscaled_y_long : length (words_of_numbers h.fixed.guy) ≡ l.points
  unscaled_y_long = number_count h.fixed.guy ∙ alike.1

  original_x_long : length (words_of_numbers h.fixed.gox) ≡ l.points
  original_x_long = number_count h.fixed.gox ∙ alike.2

  original_y_long : length (words_of_numbers h.fixed.goy) ≡ l.points
  original_y_long = number_count h.fixed.goy ∙ alike.3

  current_x_long : length (words_of_numbers h.world.gx) ≡ l.points
  current_x_long = number_count h.world.gx

  current_y_long : length (words_of_numbers h.world.gy) ≡ l.points
  current_y_long = number_count h.world.gy ∙ alike.4

  pub flags_long : length h.world.gflags ≡ l.points
  flags_long = alike.5

  pub ends_long : length h.fixed.contours ≡ l.contours
  ends_long = refl

  twilight_original_x_long : length (words_of_numbers h.world.tox) ≡ l.twilight
  twilight_original_x_long = number_count h.world.tox ∙ twilight_alike

  twilight_original_y_long : length (words_of_numbers h.world.toy) ≡ l.twilight
  twilight_original_y_long = number_count h.world.toy ∙ alike.6 ∙ twilight_alike

  twilight_x_long : length (words_of_numbers h.world.tx) ≡ l.twilight
  twilight_x_long = number_count h.world.tx

  twilight_y_long : length (words_of_numbers h.world.ty) ≡ l.twilight
  twilight_y_long = number_count h.world.ty ∙ alike.7

  pub twilight_flags_long : length h.world.tflags ≡ l.twilight
  twilight_flags_long = alike.8

  pub controls_long : length (words_of_numbers h.fixed.controls) ≡ l.controls
  controls_long = number_count h.fixed.controls

  pub sheet_long : length (words_of_numbers h.sheet) ≡ l.words
  sheet_long = number_count h.sheet

  -- where each list begins
  pub state_long : length state_ws ≡ state_size
  state_long = state_count h.world.state

  pub glyph_long : length (glyph_words h) ≡ l.points + (l.points + (l.points + (l.points + (l.points + (l.points + (l.points + l.contours))))))
  glyph_long =
      joined_long (words_of_numbers h.fixed.gux) (words_of_numbers h.fixed.guy ++ (words_of_numbers h.fixed.gox ++ (words_of_numbers h.fixed.goy ++ (words_of_numbers h.world.gx ++ (words_of_numbers h.world.gy ++ (h.world.gflags ++ h.fixed.contours)))))) unscaled_x_long (joined_long (words_of_numbers h.fixed.guy) (words_of_numbers h.fixed.gox ++ (words_of_numbers h.fixed.goy ++ (words_of_numbers h.world.gx ++ (words_of_numbers h.world.gy ++ (h.world.gflags ++ h.fixed.contours))))) unscaled_y_long (joined_long (words_of_numbers h.fixed.gox) (words_of_numbers h.fixed.goy ++ (words_of_numbers h.world.gx ++ (words_of_numbers h.world.gy ++ (h.world.gflags ++ h.fixed.contours)))) original_x_long (joined_long (words_of_numbers h.fixed.goy) (words_of_numbers h.world.gx ++ (words_of_numbers h.world.gy ++ (h.world.gflags ++ h.fixed.contours))) original_y_long (joined_long (words_of_numbers h.world.gx) (words_of_numbers h.world.gy ++ (h.world.gflags ++ h.fixed.contours)) current_x_long (joined_long (words_of_numbers h.world.gy) (h.world.gflags ++ h.fixed.contours) current_y_long (joined_long h.world.gflags h.fixed.contours flags_long ends_long))))))

  pub twilight_long : length (twilight_words h) ≡ l.twilight + (l.twilight + (l.twilight + (l.twilight + l.twilight)))
  twilight_long = joined_long (words_of_numbers h.world.tox) (words_of_numbers h.world.toy ++ (words_of_numbers h.world.tx ++ (words_of_numbers h.world.ty ++ h.world.tflags))) twilight_original_x_long (joined_long (words_of_numbers h.world.toy) (words_of_numbers h.world.tx ++ (words_of_numbers h.world.ty ++ h.world.tflags)) twilight_original_y_long (joined_long (words_of_numbers h.world.tx) (words_of_numbers h.world.ty ++ h.world.tflags) twilight_x_long (joined_long (words_of_numbers h.world.ty) h.world.tflags twilight_y_long twilight_flags_long)))

  unscaled_x_at : list_place l 0 ≡ g0
  unscaled_x_at = omega (arith, state_long)

  unscaled_y_at : list_place l 1 ≡ g1
  unscaled_y_at = omega (arith, unscaled_x_at, unscaled_x_long)

  original_x_at : list_place l 2 ≡ g2
  original_x_at = omega (arith, unscaled_y_at, unscaled_y_long)

  original_y_at : list_place l 3 ≡ g3
  original_y_at = omega (arith, original_x_at, original_x_long)

  current_x_at : list_place l 4 ≡ g4
  current_x_at = omega (arith, original_y_at, original_y_long)

  current_y_at : list_place l 5 ≡ g5
  current_y_at = omega (arith, current_x_at, current_x_long)

  pub flags_at : list_place l 6 ≡ g6
  flags_at = omega (arith, current_y_at, current_y_long)

  pub ends_at : list_place l 7 ≡ g7
  ends_at = omega (arith, flags_at, flags_long)

  twilight_original_x_at : list_place l 8 ≡ t0
  twilight_original_x_at = omega (arith, unscaled_x_at, state_long, glyph_long)

  twilight_original_y_at : list_place l 9 ≡ t1
  twilight_original_y_at = omega (arith, twilight_original_x_at, twilight_original_x_long)

  twilight_x_at : list_place l 10 ≡ t2
  twilight_x_at = omega (arith, twilight_original_y_at, twilight_original_y_long)

  twilight_y_at : list_place l 11 ≡ t3
  twilight_y_at = omega (arith, twilight_x_at, twilight_x_long)

  pub twilight_flags_at : list_place l 12 ≡ t4
  twilight_flags_at = omega (arith, twilight_y_at, twilight_y_long)

  pub controls_at : list_place l 13 ≡ r0
  controls_at = omega (arith, twilight_original_x_at, twilight_long)

  pub sheet_at : list_place l 14 ≡ r1
  sheet_at = omega (arith, controls_at, controls_long)

  -- what is read there
  unscaled_x_read : numbers_of (part b (list_place l 0) l.points) ≡ h.fixed.gux
  unscaled_x_read = ap numbers_of (lies_at b (words_of_numbers h.fixed.gux) (list_place l 0) l.points unscaled_x_at (sym unscaled_x_long) unscaled_x_lies) ∙ numbers_read k.widths.fixed.gux

  unscaled_y_read : numbers_of (part b (list_place l 1) l.points) ≡ h.fixed.guy
  unscaled_y_read = ap numbers_of (lies_at b (words_of_numbers h.fixed.guy) (list_place l 1) l.points unscaled_y_at (sym unscaled_y_long) unscaled_y_lies) ∙ numbers_read k.widths.fixed.guy

  original_x_read : numbers_of (part b (list_place l 2) l.points) ≡ h.fixed.gox
  original_x_read = ap numbers_of (lies_at b (words_of_numbers h.fixed.gox) (list_place l 2) l.points original_x_at (sym original_x_long) original_x_lies) ∙ numbers_read k.widths.fixed.gox

  original_y_read : numbers_of (part b (list_place l 3) l.points) ≡ h.fixed.goy
  original_y_read = ap numbers_of (lies_at b (words_of_numbers h.fixed.goy) (list_place l 3) l.points original_y_at (sym original_y_long) original_y_lies) ∙ numbers_read k.widths.fixed.goy

  current_x_read : numbers_of (part b (list_place l 4) l.points) ≡ h.world.gx
  current_x_read = ap numbers_of (lies_at b (words_of_numbers h.world.gx) (list_place l 4) l.points current_x_at (sym current_x_long) current_x_lies) ∙ numbers_read k.widths.world.gx

  current_y_read : numbers_of (part b (list_place l 5) l.points) ≡ h.world.gy
  current_y_read = ap numbers_of (lies_at b (words_of_numbers h.world.gy) (list_place l 5) l.points current_y_at (sym current_y_long) current_y_lies) ∙ numbers_read k.widths.world.gy

  flags_read : flags_of (part b (list_place l 6) l.points) ≡ h.world.gflags
  flags_read = ap flags_of (lies_at b h.world.gflags (list_place l 6) l.points flags_at (sym flags_long) flags_lies) ∙ all-flags-read k.widths.world.gflags

  ends_read : ends_of (part b (list_place l 7) l.contours) ≡ h.fixed.contours
  ends_read = ap ends_of (lies_at b h.fixed.contours (list_place l 7) l.contours ends_at (sym ends_long) ends_lies) ∙ all-ends-read k.widths.fixed.contours

  twilight_original_x_read : numbers_of (part b (list_place l 8) l.twilight) ≡ h.world.tox
  twilight_original_x_read = ap numbers_of (lies_at b (words_of_numbers h.world.tox) (list_place l 8) l.twilight twilight_original_x_at (sym twilight_original_x_long) twilight_original_x_lies) ∙ numbers_read k.widths.world.tox

  twilight_original_y_read : numbers_of (part b (list_place l 9) l.twilight) ≡ h.world.toy
  twilight_original_y_read = ap numbers_of (lies_at b (words_of_numbers h.world.toy) (list_place l 9) l.twilight twilight_original_y_at (sym twilight_original_y_long) twilight_original_y_lies) ∙ numbers_read k.widths.world.toy

  twilight_x_read : numbers_of (part b (list_place l 10) l.twilight) ≡ h.world.tx
  twilight_x_read = ap numbers_of (lies_at b (words_of_numbers h.world.tx) (list_place l 10) l.twilight twilight_x_at (sym twilight_x_long) twilight_x_lies) ∙ numbers_read k.widths.world.tx

  twilight_y_read : numbers_of (part b (list_place l 11) l.twilight) ≡ h.world.ty
  twilight_y_read = ap numbers_of (lies_at b (words_of_numbers h.world.ty) (list_place l 11) l.twilight twilight_y_at (sym twilight_y_long) twilight_y_lies) ∙ numbers_read k.widths.world.ty

  twilight_flags_read : flags_of (part b (list_place l 12) l.twilight) ≡ h.world.tflags
  twilight_flags_read = ap flags_of (lies_at b h.world.tflags (list_place l 12) l.twilight twilight_flags_at (sym twilight_flags_long) twilight_flags_lies) ∙ all-flags-read k.widths.world.tflags

  controls_read : numbers_of (part b (list_place l 13) l.controls) ≡ h.fixed.controls
  controls_read = ap numbers_of (lies_at b (words_of_numbers h.fixed.controls) (list_place l 13) l.controls controls_at (sym controls_long) controls_lies) ∙ numbers_read k.widths.fixed.controls

  sheet_read : numbers_of (part b (list_place l 14) l.words) ≡ h.sheet
  sheet_read = ap numbers_of (lies_at b (words_of_numbers h.sheet) (list_place l 14) l.words sheet_at (sym sheet_long) sheet_lies) ∙ numbers_read k.widths.sheet

  -- the state, where all its words are kept
  module _ (all_kept : kept_in b ≡ state_size) where
    pub state_same : state_in b ≡ state_ws
    unfolding state_words
    state_same =
        ap (λ (n : ℕ). part b 0 n ++ drop n (state_words fresh_state)) all_kept
        ∙ append-nil (part b 0 state_size)
        ∙ lies_at b state_ws 0 state_size refl (sym state_long) state_lies

    state_read : state_of (state_in b) ≡ h.world.state
    state_read = ap state_of state_same ∙ read_written h.world.state k.widths.world.state.signed

    -- the state and every list stand where the layout says
    pub read_as_written : held_in b (layout_for h) ≡ h
    read_as_written = same_held (sym k.rules) state_read unscaled_x_read unscaled_y_read original_x_read original_y_read current_x_read current_y_read flags_read ends_read twilight_original_x_read twilight_original_y_read twilight_x_read twilight_y_read twilight_flags_read controls_read sheet_read
