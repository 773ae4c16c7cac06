-- No outline of a record's points is longer than the room for it: a line has at most 66 bytes, and there are at most three steps to a point. Assumes nothing.
use Rattle.std.specs.Prelude.{Result, Ok, Err, Option, Some, None}
use Rattle.outline_steps.specs.declared.Stroked.{Stroked}
use mathlib.Core.Bool.{Bool, true, false, cond, ◌&&◌}
use mathlib.Core.List.{List, [], ◌∷◌, ◌++◌}
use mathlib.Core.Path.{◌≡◌, refl, sym, ap, ◌∙◌, subst}
use Prim.Native.Nat.{ℕ, zero, suc, ◌+◌, ◌*◌, ◌-◌, ◌/◌, ◌%◌, ◌≤◌, ◌<◌, ◌^◌}
use native.Mathlib.Omega.{arith}
use borrow.Author.Tests.{eq-eqb, ne_eqb, leb-true, leb-false, ltb-true}
use lib.Dec.{eqb, leb, ltb}
use lib.IntN.{ℤ, pos, negsuc, nat_abs}
use lib.ListN.{length, length-append}
use Rattle.answer.specs.Answer.{number_of}
use Rattle.answer.specs.declared.Refusal.{Refusal}
use Rattle.answer.specs.declared.Refusal.TheVariants.{Sizes, State, Line as RefusedLine, Surplus, Missing, Point, ControlValue, ZonePointer, LoopCount, Range, Contour, Compatibility, Ends, Far}
use Rattle.contour_ends.specs.Ends.{ends_rise, rising_from}
use Rattle.outline_numbers.proofs.Near.{left_of, right_of, near_small}
use Rattle.outline_numbers.specs.Drawing.{Extent, none, box, near, is_near, extent_of, handed_out, spots_of, with_spots}
use Rattle.outline_numbers.proofs.Bounded.{spots_joined, step_within}
use Rattle.outline_numbers.specs.declared.Spot.{Spot}
use Rattle.outline_numbers.specs.declared.Stroke.{Stroke}
use Rattle.outline_numbers.specs.declared.Stroke.TheVariants.{Move, Line, Curve, Close}
use Rattle.outline_steps.proofs.OneByOne.{Close-by, Goes, NearWalk, close_of, fresh_has, near_by, remaining, walk_law}
use Rattle.outline_steps.specs.Outline.{Glyph, on, between, own, line_to, curve_to, Waits, off, visit, begun, contour_of, contours_of, steps_of, sizes_fit, all_close, Entry, entry_of, drawable, refused}
use Rattle.outline_steps.specs.Outline.{none as still}
use Rattle.outline_steps.specs.Pen.{begin_of, begun_by, fresh, walk_of}
use Rattle.outline_steps.specs.declared.Pen.{Pen}
use Rattle.outline_steps.specs.declared.Walk.{Walk}
use Rattle.record_print.proofs.Decimal.{digits_most}
use Rattle.record_print.specs.Text.{decimal}
use Rattle.outline_print.specs.Lines.{AllNear, box_line, ended, fraction, glyph_text, outline_text, place_text, places_text, pointed, refusal_line, size_text, stroke_line, stroke_lines, tail_by, tail_of, text_by}
use Rattle.outline_print.proofs.Putting.{close_long, curve_long, line_long, move_long, place_long, places_long}

-- ---- a number
tail_most : (n r : ℕ) → length (tail_by n r) ≤ n
tail_most zero r = omega arith
tail_most (suc n) r = go (eqb r 0) (tail_most n (r * 10 % 128))
  where
    go : (t : Bool) → length (tail_by n (r * 10 % 128)) ≤ n → length (cond t [] ((48 + r * 10 / 128) ∷ tail_by n (r * 10 % 128))) ≤ suc n
    go true h = omega arith
    go false h = omega arith

pointed_most : (r : ℕ) → length (pointed r) ≤ 8
unfolding pointed tail_of
pointed_most r = go (eqb r 0)
  where
    go : (t : Bool) → length (cond t [] (46 ∷ tail_by 7 r)) ≤ 8
    go true = omega arith
    go false = omega (arith, tail_most 7 r)

size_most : (n : ℕ) → n < 2 ^ 24 → length (size_text n) ≤ 14
unfolding size_text
size_most n h = omega (arith, length-append (decimal (n / 128)) (pointed (n % 128)), pointed_most (n % 128), digits_most 5 (n / 128) (omega arith))

fraction_most : (z : ℤ) → near z ≡ true → length (fraction z) ≤ 15
unfolding fraction
fraction_most (pos n) h = omega (arith, size_most n (near_small (pos n) h))
fraction_most (negsuc n) h = omega (arith, size_most (suc n) (near_small (negsuc n) h))

-- a number and the byte behind it
ended_most : (z : ℤ) (end : ℕ) → near z ≡ true → length (ended (fraction z) end) ≤ 16
ended_most z end h = omega (arith, length-append (fraction z) (end ∷ []), fraction_most z h)

-- ---- lines
module _ (a b x y : ℤ) (e : near a && near b && near x && near y ≡ true) where
  before_y : (near a && near b) && near x ≡ true
  before_y = left_of ((near a && near b) && near x) (near y) e

  both : near a && near b ≡ true
  both = left_of (near a && near b) (near x) before_y

  places_most : length (places_text a b x y) ≤ 64
  places_most = omega (
    arith,
    places_long a b x y,
    place_long x y,
    ended_most a 32 (left_of (near a) (near b) both),
    ended_most b 32 (right_of (near a) (near b) both),
    ended_most x 32 (right_of (near a && near b) (near x) before_y),
    ended_most y 10 (right_of ((near a && near b) && near x) (near y) e),
  )

place_most : (x y : ℤ) → near x && near y ≡ true → length (place_text x y) ≤ 32
place_most x y e = omega (arith, place_long x y, ended_most x 32 (left_of (near x) (near y) e), ended_most y 10 (right_of (near x) (near y) e))

stroke_most : (d : Stroke) → is_near d ≡ true → length (stroke_line d) ≤ 70
stroke_most (Move x y) e = omega (arith, move_long {x = x} {y = y} refl, place_most x y e)
stroke_most (Line x y) e = omega (arith, line_long {x = x} {y = y} refl, place_most x y e)
stroke_most (Curve a b x y) e = omega (arith, curve_long {cx = a} {cy = b} {x = x} {y = y} refl, places_most a b x y e)
stroke_most Close e = omega (arith, close_long refl)

box_most : (k : Extent) → AllNear k → length (box_line k) ≤ 70
unfolding box_line
box_most none n = omega arith
box_most (box k) n =
    omega (arith, length-append (98 ∷ 111 ∷ 120 ∷ 32 ∷ []) (places_text k.left k.bottom k.right k.top), places_most k.left k.bottom k.right k.top (λ i. n.0 i && n.1 i && n.2 i && n.3 i))

-- ---- how many steps
visit_most : (g : Glyph) (s : Spot) (at n : ℕ) → (length (visit g s still at n) ≤ n + 1) × ((c : ℕ) → length (visit g s (off c) at n) ≤ n + 2)
unfolding visit
visit_most g s at zero = (omega arith, λ c. omega arith)
visit_most g s at (suc n) = let v = visit_most g s (suc at) n in (
  by_on (on g at) v.0 (v.1 at),
  λ c. by_off c (on g at) v.0 (v.1 at),
)
  where
    by_on : (t : Bool) → length (visit g s still (suc at) n) ≤ n + 1 → length (visit g s (off at) (suc at) n) ≤ n + 2
        → length (cond t (line_to (own g at) ∷ visit g s still (suc at) n) (visit g s (off at) (suc at) n)) ≤ suc n + 1
    by_on true h k = omega arith
    by_on false h k = omega arith

    by_off : (c : ℕ) (t : Bool) → length (visit g s still (suc at) n) ≤ n + 1 → length (visit g s (off at) (suc at) n) ≤ n + 2
        → length (cond t (curve_to (own g c) (own g at) ∷ visit g s still (suc at) n) (curve_to (own g c) (between g c at) ∷ visit g s (off at) (suc at) n)) ≤ suc n + 2
    by_off c true h k = omega arith
    by_off c false h k = omega arith

begun_most : (g : Glyph) (s : Spot) (at stop : ℕ) → length (begun g s at stop) ≤ (stop - at) + 2
begun_most g s at stop = omega (arith, (visit_most g s at (stop - at)).0)

contour_most : (g : Glyph) (first last : ℕ) → first ≤ last → length (contour_of g first last) ≤ 3 * (suc last - first)
unfolding contour_of
contour_most g first last h = by_length (leb last first) (leb-false last first) (on g first) (on g last)
  where
    by_length : (t : Bool) → (t ≡ false → first < last) → (b d : Bool)
        → length (cond t (begun g (own g first) (suc last) (suc last)) (cond b (begun g (own g first) (suc first) (suc last)) (cond d (begun g (own g last) first last) (begun g (between g first last) first (suc last))))) ≤ 3 * (suc last - first)
    by_length true k b d = omega (arith, begun_most g (own g first) (suc last) (suc last))
    by_length false k true d = let l = k refl in omega (arith, begun_most g (own g first) (suc first) (suc last))
    by_length false k false true = let l = k refl in omega (arith, begun_most g (own g last) first last)
    by_length false k false false = let l = k refl in omega (arith, begun_most g (between g first last) first (suc last))

contours_most : (g : Glyph) (first n : ℕ) (ends : List ℕ) → rising_from first n ends ≡ true → length (contours_of g first ends) ≤ 3 * (n - first)
unfolding contours_of rising_from
contours_most g first n [] e = omega arith
contours_most g first n (last ∷ ends) e =
    let rest = right_of (leb first last) (ltb last n && rising_from (suc last) n ends) e in
    let low = leb-true first last (left_of (leb first last) (ltb last n && rising_from (suc last) n ends) e) in
    let high = ltb-true last n (left_of (ltb last n) (rising_from (suc last) n ends) rest) in
    omega (
      arith,
      length-append (contour_of g first last) (contours_of g (suc last) ends),
      contour_most g first last low,
      contours_most g (suc last) n ends (right_of (ltb last n) (rising_from (suc last) n ends) rest),
    )

-- ---- the whole
-- of a walk with at most n steps before it
lines_from : (g : Glyph) (n : ℕ) (w : Walk) (x : Option Stroked) → Goes g (remaining g w) x → NearWalk x → ((v : Walk) → length (remaining g v) ≤ n → length (stroke_lines (remaining g v)) ≤ 70 * length (remaining g v))
    → length (remaining g w) ≤ suc n → length (stroke_lines (remaining g w)) ≤ 70 * length (remaining g w)
lines_from g n w (Some s) goes near more h =
    let few : length (remaining g s.walk) ≤ n = omega (arith, ap length goes) in
    omega (arith, ap length goes, ap (λ (l : List Stroke). length (stroke_lines l)) goes, length-append (stroke_line s.stroke) (stroke_lines (remaining g s.walk)), stroke_most s.stroke near, more s.walk few)
lines_from g n w None goes near more h = omega (arith, ap (λ (l : List Stroke). length (stroke_lines l)) goes)

lines_most : (g : Glyph) → Close-by g → (n : ℕ) (w : Walk) → length (remaining g w) ≤ n → length (stroke_lines (remaining g w)) ≤ 70 * length (remaining g w)
lines_most g close zero w h = none_left (remaining g w) h
  where
    none_left : (l : List Stroke) → length l ≤ 0 → length (stroke_lines l) ≤ 70 * length l
    none_left [] k = omega arith
    none_left (d ∷ l) k = absurd (omega arith)
lines_most g close (suc n) w h = lines_from g n w (walk_of g w) (walk_law g w) (near_by g close w w.stage) (lines_most g close n) h

-- every edge of the box around a walk's steps is near
box_near : (g : Glyph) → Close-by g → (n : ℕ) (w : Walk) (k : Extent) → length (remaining g w) ≤ n → AllNear k → AllNear (with_spots k (handed_out (remaining g w)))
box_near g close zero w k h a = none_left (remaining g w) h
  where
    none_left : (l : List Stroke) → length l ≤ 0 → AllNear (with_spots k (handed_out l))
    none_left [] m = a
    none_left (d ∷ l) m = absurd (omega arith)
box_near g close (suc n) w k h a = go (walk_of g w) (walk_law g w) (near_by g close w w.stage) (box_near g close n)
  where
    go : (x : Option Stroked) → Goes g (remaining g w) x → NearWalk x → ((v : Walk) (j : Extent) → length (remaining g v) ≤ n → AllNear j → AllNear (with_spots j (handed_out (remaining g v)))) → AllNear (with_spots k (handed_out (remaining g w)))
    go (Some s) goes near more =
        let few : length (remaining g s.walk) ≤ n = omega (arith, ap length goes) in
        subst (λ (l : List Stroke). AllNear (with_spots k (handed_out l))) (sym goes)
        (subst AllNear (sym (spots_joined k (spots_of s.stroke) (handed_out (remaining g s.walk)))) (more s.walk (with_spots k (spots_of s.stroke)) few (step_within k s.stroke near a)))
    go None goes near more = subst (λ (l : List Stroke). AllNear (with_spots k (handed_out l))) (sym goes) a

-- three steps to a point, and 70 bytes to a line
pub outline_most : (g : Glyph) → entry_of g ≡ drawable → ends_rise (length g.xs) g.contours ≡ true → length (outline_text g) ≤ 210 * length g.xs + 70
unfolding outline_text steps_of
outline_most g e rise =
    let close = close_of g e in
    let steps = steps_of g in
    let few : length (contours_of g 0 g.contours) ≤ 3 * (length g.xs - 0) = contours_most g 0 (length g.xs) g.contours rise in
    let lines : length (stroke_lines (contours_of g 0 g.contours)) ≤ 70 * length (contours_of g 0 g.contours) = lines_most g close (length (remaining g fresh.walk)) fresh.walk (omega arith) in
    let frame = box_most (extent_of (contours_of g 0 g.contours)) (box_near g close (length (remaining g fresh.walk)) fresh.walk none (omega arith) tt) in
    omega (arith, length-append (stroke_lines (contours_of g 0 g.contours)) (box_line (extent_of (contours_of g 0 g.contours))))

-- ---- a glyph that is drawn or refused
begun_by_lem : (e : Entry) {p : Pen} → begun_by e ≡ Ok p → e ≡ drawable
begun_by_lem drawable h = refl
begun_by_lem (refused why) h = cc h

refused_by : (e : Entry) {why : Refusal} → begun_by e ≡ Err why → e ≡ refused why
refused_by drawable h = cc h
refused_by (refused why) h = cc h

pub begun_drawable : (g : Glyph) {b : Result Pen Refusal} {p : Pen} → b ≡ begin_of g → b ≡ Ok p → entry_of g ≡ drawable
begun_drawable g e h = begun_by_lem (entry_of g) (sym e ∙ h)

pub drawn_text : (g : Glyph) {b : Result Pen Refusal} {p : Pen} → b ≡ begin_of g → b ≡ Ok p → glyph_text g ≡ outline_text g
unfolding glyph_text
drawn_text g e h = ap (text_by g) (begun_drawable g e h)

pub refused_text : (g : Glyph) {b : Result Pen Refusal} {why : Refusal} {n : ℕ} → b ≡ begin_of g → b ≡ Err why → n ≡ number_of why → glyph_text g ≡ refusal_line n
unfolding glyph_text
refused_text g e h k = ap (text_by g) (refused_by (entry_of g) (sym e ∙ h)) ∙ ap refusal_line (sym k)

-- ---- the longest
rise_drawable : (a b c : Bool) → cond a (cond b (cond c drawable (refused Far)) (refused Ends)) (refused Sizes) ≡ drawable → b ≡ true
rise_drawable true true c e = refl
rise_drawable true false c e = cc e
rise_drawable false b c e = cc e

rises : (g : Glyph) → entry_of g ≡ drawable → ends_rise (length g.xs) g.contours ≡ true
unfolding entry_of
rises g e = rise_drawable (sizes_fit g) (ends_rise (length g.xs) g.contours) (all_close g.xs && all_close g.ys) e

small_number : (why : Refusal) → number_of why < 100
small_number Sizes = omega arith
small_number State = omega arith
small_number RefusedLine = omega arith
small_number Surplus = omega arith
small_number Missing = omega arith
small_number (Point at) = omega arith
small_number (ControlValue at) = omega arith
small_number (ZonePointer at) = omega arith
small_number (LoopCount at) = omega arith
small_number (Range at) = omega arith
small_number (Contour at) = omega arith
small_number Compatibility = omega arith
small_number Ends = omega arith
small_number Far = omega arith

refusal_most : (why : Refusal) → length (refusal_line (number_of why)) ≤ 70
refusal_most why =
    let n = number_of why in
    omega (arith, length-append (111 ∷ 117 ∷ 116 ∷ 108 ∷ 105 ∷ 110 ∷ 101 ∷ 32 ∷ []) (ended (decimal n) 10), length-append (decimal n) (10 ∷ []), digits_most 1 n (small_number why))

pub glyph_most : (g : Glyph) → length g.xs ≤ 872 → length (glyph_text g) ≤ 183190
unfolding glyph_text
glyph_most g h = go (entry_of g) refl
  where
    go : (e : Entry) → entry_of g ≡ e → length (text_by g e) ≤ 183190
    go drawable e = omega (arith, outline_most g e (rises g e))
    go (refused why) e = omega (arith, refusal_most why)
