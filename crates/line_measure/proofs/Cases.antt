-- GC and MD in each of their cases, over a plain world: what their functions find is what the lines push. Assumes nothing.
use Rattle.std.specs.Prelude.{Result, Ok, Err}
use Prim.Native.Nat.{ℕ, ◌≤◌, ◌<◌}
use mathlib.Core.Bool.{Bool, ◌&&◌, ◌||◌, cond, false, not, true, true≢false}
use mathlib.Core.List.{List}
use mathlib.Core.Path.{◌≡◌, ap, ap₂, refl, sym, ◌∙◌}
use lib.Dec.{ltb}
use lib.IntN.{ℤ, pos}
use lib.ListN.{length}
use Rattle.answer.specs.declared.Refusal.TheVariants.{Missing, Point}
use Rattle.answer.specs.declared.Refusal.{Refusal}
use Rattle.graphics.specs.State.{is_twilight}
use Rattle.graphics.specs.declared.Vector.{Vector}
use Rattle.graphics.specs.declared.ZonePointer.TheVariants.{Glyph, Twilight}
use Rattle.graphics.specs.declared.ZonePointer.{ZonePointer}
use Rattle.line.specs.Operands.{index_at, is_odd}
use Rattle.line.specs.Places.{fetch_in, place_in, size_of}
use Rattle.line.specs.World.{Fixed, Lined, World}
use Rattle.line_distance.specs.Outline.{originals_apart, outline_of, unscaled_apart}
use Rattle.line_steps.proofs.Laws.{one_missing, one_there, two_missing, two_there}
use Rattle.line_steps.specs.Numbers.{from_origin, origin}
use Rattle.line_steps.specs.Steps.{by_fetched, point_or, refused_in}
use Rattle.projection.specs.Projection.{along_of, dual_project_of, project_of}
use Rattle.zone.specs.Zone.{fetch_of}
use Rattle.line_measure.specs.Measure.{gc_of, md_of, md_original, original_or, pushes, zero_or}
use Rattle.line_measure.specs.Steps.{apart_of, by_measured, glyph_apart, looked_up, vector_for}

-- ---- a test that was made
module _ {A : Type 0} (x y : A) {b : Bool} {r : A} where
  pub taken : b ≡ true → r ≡ x → r ≡ cond b x y
  taken h e = e ∙ sym (ap (λ (t : Bool). cond t x y) h)

  pub left : b ≡ false → r ≡ y → r ≡ cond b x y
  left h e = e ∙ sym (ap (λ (t : Bool). cond t x y) h)

-- ---- how far one point lies from another, by where they were found
module _ (v : Vector) {first : Result Vector Refusal} where
  pub first_out : (second : Result Vector Refusal) {why : Refusal} → first ≡ Err why → Err why ≡ apart_of v first second
  unfolding apart_of
  first_out second e = ap (λ (g : Result Vector Refusal). apart_of v g second) (sym e)

  pub second_out : {second : Result Vector Refusal} {here : Vector} {why : Refusal} → first ≡ Ok here → second ≡ Err why → Err why ≡ apart_of v first second
  unfolding apart_of
  second_out e h = ap₂ (apart_of v) (sym e) (sym h)

  pub both_there : {second : Result Vector Refusal} {here there : Vector} {d : ℤ} → first ≡ Ok here → second ≡ Ok there → d ≡ along_of v here there → Ok d ≡ apart_of v first second
  unfolding apart_of
  both_there e h p = ap Ok p ∙ ap₂ (apart_of v) (sym e) (sym h)

-- of numbers as they are read back, two points of the original glyph
module _ (pedantic : Bool) (v : Vector) (scale : ℤ) (a b : ℕ) (gux guy : List ℤ) {in_a in_b : Bool} (k : in_a ≡ ltb a (length gux)) (l : in_b ≡ ltb b (length gux)) where
  test_is : pedantic || (in_a && in_b) ≡ pedantic || (ltb a (length gux) && ltb b (length gux))
  test_is = ap₂ (λ (x y : Bool). pedantic || (x && y)) k l

  pub glyph_measured : {scale' r : ℤ} → pedantic || (in_a && in_b) ≡ true → scale' ≡ scale → r ≡ unscaled_apart v scale' a b gux guy → r ≡ glyph_apart pedantic v scale a b gux guy
  unfolding glyph_apart
  glyph_measured h z e = taken _ _ (sym test_is ∙ h) (e ∙ ap (λ (scale : ℤ). unscaled_apart v scale a b gux guy) z)

  pub glyph_outside : pedantic || (in_a && in_b) ≡ false → pos 0 ≡ glyph_apart pedantic v scale a b gux guy
  unfolding glyph_apart
  glyph_outside h = left _ _ (sym test_is ∙ h) refl

-- ---- what is pushed
-- a refusal where the state is pedantic, and else 0
module _ (w : World) (why : Refusal) {r : Lined} where
  pub zero_pedantic : w.state.facts.pedantic ≡ true → r ≡ refused_in w why → r ≡ zero_or w why
  unfolding zero_or
  zero_pedantic h e = taken _ _ h e

  pub zero_lenient : w.state.facts.pedantic ≡ false → r ≡ pushes (pos 0) w → r ≡ zero_or w why
  unfolding zero_or
  zero_lenient h e = left _ _ h e

-- a distance, as it is read back
pub pushed_read : (w : World) {m : Result ℤ Refusal} {d d' : ℤ} {r : Lined} → m ≡ Ok d → d' ≡ d → r ≡ pushes d' w → r ≡ by_measured w m
pushed_read w e z p = p ∙ ap (λ (d : ℤ). pushes d w) z ∙ sym (ap (by_measured w) e)

-- ---- what is found is what the line pushes
module _ (f : Fixed) (w : World) where
  abbrev looked_in : Bool → ZonePointer → ℕ → Result Vector Refusal
  looked_in original zone at = looked_up original zone at f.gox f.goy w.gx w.gy w.tox w.toy w.tx w.ty

  -- GC's point
  one_found : (v : Vector) (g : Result Vector Refusal) → by_measured w (apart_of v g (Ok origin)) ≡ by_fetched (zero_or w) (λ (place : Vector). pushes (along_of v place origin) w) g
  unfolding apart_of
  one_found v (Ok place) = refl
  one_found v (Err why) = refl

  gc_measured : (original : Bool) (zone : ZonePointer) (at : ℕ)
      → by_measured w (apart_of (vector_for original w.state.vectors) (looked_in original zone at) (Ok origin))
      ≡ cond original
      (original_or f zone at w (zero_or w) (λ (place : Vector). pushes (dual_project_of w.state.vectors place origin) w))
      (point_or zone at w (zero_or w) (λ (place : Vector). pushes (from_origin w.state.vectors place) w))
  unfolding looked_up original_or point_or from_origin
  gc_measured true zone at = one_found w.state.vectors.dual _
  gc_measured false zone at = one_found w.state.vectors.projection _

  -- MD's two
  two_found : (v : Vector) (g h : Result Vector Refusal)
      → by_measured w (apart_of v g h) ≡ by_fetched (zero_or w) (λ (here : Vector). by_fetched (zero_or w) (λ (there : Vector). pushes (along_of v here there) w) h) g
  unfolding apart_of
  two_found v (Ok here) (Ok there) = refl
  two_found v (Ok here) (Err why) = refl
  two_found v (Err why) h = refl

  -- two originals: each was found at its place
  abbrev original_at : ℕ → ZonePointer → Vector
  original_at at zone = place_in at f.gox f.goy w.tox w.toy zone

  abbrev is_there : ℕ → ZonePointer → Bool
  is_there at zone = ltb at (size_of (length f.gox) (length w.tox) zone)

  abbrev found_by : ℕ → Vector → Bool → Result Vector Refusal
  found_by at place b = cond b (Ok place) (Err (Point at))

  fetched_by : (at : ℕ) (zone : ZonePointer) → looked_in true zone at ≡ found_by at (original_at at zone) (is_there at zone)
  unfolding looked_up fetch_in fetch_of place_in size_of
  fetched_by at Glyph = refl
  fetched_by at Twilight = refl

  both_placed : (a b : ℕ) (here there : Vector) (x y : Bool)
      → by_measured w (apart_of w.state.vectors.dual (found_by a here x) (found_by b there y))
      ≡ by_fetched (zero_or w) (λ (_ : Vector). by_fetched (zero_or w) (λ (_ : Vector). pushes (dual_project_of w.state.vectors here there) w) (found_by b there y)) (found_by a here x)
  unfolding apart_of
  both_placed a b here there true true = refl
  both_placed a b here there true false = refl
  both_placed a b here there false y = refl

  originals_measured : (p : ZonePointer) (a : ℕ) (q : ZonePointer) (b : ℕ)
      → by_measured w (apart_of w.state.vectors.dual (looked_in true p a) (looked_in true q b))
      ≡ original_or f p a w (zero_or w) (λ (_ : Vector). original_or f q b w (zero_or w) (λ (_ : Vector). pushes (originals_apart w.state.vectors.dual p a q b f.gox f.goy w.tox w.toy) w))
  unfolding looked_up original_or originals_apart
  originals_measured p a q b = rw (fetched_by a p, fetched_by b q) (both_placed a b (original_at a p) (original_at b q) (is_there a p) (is_there b q))

  pushed_by : (c : Bool) (d : ℤ) → pushes (cond c d (pos 0)) w ≡ cond c (pushes d w) (pushes (pos 0) w)
  pushed_by true d = refl
  pushed_by false d = refl

  module _ (a b : ℕ) where
    abbrev p : ZonePointer
    p = w.state.pointers.zp0

    abbrev q : ZonePointer
    q = w.state.pointers.zp1

    abbrev glyph_in : ℤ → ℤ
    glyph_in scale = glyph_apart w.state.facts.pedantic w.state.vectors.dual scale a b f.gux f.guy

    abbrev md_by : Bool → Lined
    md_by odd =
        cond odd
        (point_or p a w (zero_or w) (λ (here : Vector). point_or q b w (zero_or w) (λ (there : Vector). pushes (project_of w.state.vectors here there) w)))
        (md_original f a b w)

    md_measured : (odd : Bool) → odd || is_twilight p || is_twilight q ≡ true
        → by_measured w (apart_of (vector_for (not odd) w.state.vectors) (looked_in (not odd) p a) (looked_in (not odd) q b)) ≡ md_by odd
    unfolding looked_up point_or md_original outline_of
    md_measured true h = two_found w.state.vectors.projection _ _
    md_measured false h = rw h (originals_measured p a q b)

    md_pushed : (odd : Bool) → odd || is_twilight p || is_twilight q ≡ false → pushes (glyph_in w.state.measures.scale) w ≡ md_by odd
    unfolding glyph_apart md_original outline_of
    md_pushed true h = absurd (true≢false h)
    md_pushed false h = rw h (pushed_by (w.state.facts.pedantic || (ltb a (length f.gux) && ltb b (length f.gux))) (unscaled_apart w.state.vectors.dual w.state.measures.scale a b f.gux f.guy))

-- ---- the lines
module _ (f : Fixed) (opcode : ℕ) (operands : List ℤ) (w : World) {r : Lined} where
  pub gc_missing : length operands < 1 → r ≡ refused_in w Missing → r ≡ gc_of f opcode operands w
  unfolding gc_of
  gc_missing h e = one_missing w operands _ h e

  pub gc_found : {at : ℕ} {odd : Bool} {zp2 : ZonePointer} {v : Vector} {g : Result Vector Refusal} {m : Result ℤ Refusal} → 1 ≤ length operands → at ≡ index_at operands 0 → odd ≡ is_odd opcode
      → zp2 ≡ w.state.pointers.zp2 → g ≡ looked_in f w odd zp2 at → v ≡ vector_for odd w.state.vectors → m ≡ apart_of v g (Ok origin) → r ≡ by_measured w m → r ≡ gc_of f opcode operands w
  unfolding gc_of
  gc_found {at = at} {odd = odd} h i o z e v d p =
      let found = d ∙ ap₂ (λ (v : Vector) (g : Result Vector Refusal). apart_of v g (Ok origin)) v (e ∙ ap (λ (zone : ZonePointer). looked_in f w odd zone at) z) in
      one_there w operands _ h (rw (← i, ← o) (p ∙ ap (by_measured w) found ∙ gc_measured f w odd w.state.pointers.zp2 at))

  pub md_missing : length operands < 2 → r ≡ refused_in w Missing → r ≡ md_of f opcode operands w
  unfolding md_of
  md_missing h e = two_missing w operands _ h e

  -- ---- the operands are there, and the zones were looked at
  module _ {a b : ℕ} {zp0 zp1 : ZonePointer} {odd tp tq : Bool} (h : 2 ≤ length operands) (j : b ≡ index_at operands 0) (i : a ≡ index_at operands 1) (o : odd ≡ is_odd opcode) (e0 : zp0 ≡ w.state.pointers.zp0) (e1 : zp1 ≡ w.state.pointers.zp1) (s : tp ≡ is_twilight zp0) (t : tq ≡ is_twilight zp1) where
    pub md_found : {v : Vector} {g k : Result Vector Refusal} {m : Result ℤ Refusal} → odd || tp || tq ≡ true
        → g ≡ looked_in f w (not odd) zp0 a → k ≡ looked_in f w (not odd) zp1 b
        → v ≡ vector_for (not odd) w.state.vectors → m ≡ apart_of v g k → r ≡ by_measured w m → r ≡ md_of f opcode operands w
    unfolding md_of
    md_found {k = k} c e u v d p =
        let first = e ∙ ap (λ (zone : ZonePointer). looked_in f w (not odd) zone a) e0 in
        let second = u ∙ ap (λ (zone : ZonePointer). looked_in f w (not odd) zone b) e1 in
        let found = d ∙ ap₂ (λ (v : Vector) (g : Result Vector Refusal). apart_of v g k) v first ∙ ap (apart_of (vector_for (not odd) w.state.vectors) _) second in
        two_there w operands _ h (rw (← i, ← j, ← o) (p ∙ ap (by_measured w) found ∙ md_measured f w a b odd (rw (s ∙ ap is_twilight e0, t ∙ ap is_twilight e1) at c)))

    pub md_glyph : {scale d : ℤ} → odd || tp || tq ≡ false → scale ≡ w.state.measures.scale → d ≡ glyph_in f w a b scale → r ≡ pushes d w → r ≡ md_of f opcode operands w
    unfolding md_of
    md_glyph c z d p =
        let found = d ∙ ap (glyph_in f w a b) z in
        two_there w operands _ h (rw (← i, ← j, ← o) (p ∙ ap (λ (d : ℤ). pushes d w) found ∙ md_pushed f w a b odd (rw (s ∙ ap is_twilight e0, t ∙ ap is_twilight e1) at c)))
