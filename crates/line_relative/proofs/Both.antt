-- Two look-ups, each in a zone of its own: what the functions that test two indices say is what a line that reads two points does, whatever it does where one is outside.
-- Assumes nothing.
use Rattle.std.specs.Prelude.{⊤, Result, Ok, Err}
use Prim.Native.Nat.{ℕ, ◌≤◌, ◌<◌}
use mathlib.Core.Bool.{Bool, cond, false, true, true≢false}
use mathlib.Core.Path.{◌≡◌, ap, ap₂, refl, sym, ◌∙◌}
use borrow.Author.Tests.{le-ltb, lt-ltb}
use lib.Dec.{ltb}
use lib.ListN.{length, length-set}
use Rattle.answer.specs.declared.Refusal.TheVariants.{Point}
use Rattle.answer.specs.declared.Refusal.{Refusal}
use Rattle.graphics.specs.declared.Vector.{Vector}
use Rattle.graphics.specs.declared.ZonePointer.TheVariants.{Glyph, Twilight}
use Rattle.graphics.specs.declared.ZonePointer.{ZonePointer}
use Rattle.line.specs.Places.{fetch_in, place_in, size_of}
use Rattle.line.specs.World.{Lined, World}
use Rattle.line_steps.specs.Steps.{by_fetched, made_in, point_or}
use Rattle.zone.specs.Zone.{fetch_of}
use Rattle.line_relative.specs.Relative.{both_there}
use Rattle.line_relative.specs.Steps.{both_inside, reach_of}

-- ---- two indices
module _ (first firsts second seconds : ℕ) where
  pub first_out : firsts ≤ first → Err (Point first) ≡ both_inside first firsts second seconds
  unfolding both_inside
  first_out h = rw (le-ltb first firsts h)

  pub second_out : first < firsts → seconds ≤ second → Err (Point second) ≡ both_inside first firsts second seconds
  unfolding both_inside
  second_out h k = rw (lt-ltb first firsts h, le-ltb second seconds k)

  pub both_in : first < firsts → second < seconds → Ok tt ≡ both_inside first firsts second seconds
  unfolding both_inside
  both_in h k = rw (lt-ltb first firsts h, lt-ltb second seconds k)

-- ---- what is known where both are inside
abbrev is_done : Result ⊤ Refusal → Bool
is_done (Ok tt) = true
is_done (Err _) = false

not_done : {why : Refusal} → ◌≡◌ {A = Result ⊤ Refusal} (Err why) (Ok tt) → ⊥
not_done e = true≢false (sym (ap is_done e))

both_tests : (p q : Refusal) (a b : Bool) → ◌≡◌ {A = Result ⊤ Refusal} (cond a (cond b (Ok tt) (Err q)) (Err p)) (Ok tt) → (a ≡ true) × (b ≡ true)
both_tests p q true true e = (refl, refl)
both_tests p q true false e = absurd (not_done e)
both_tests p q false b e = absurd (not_done e)

module _ (at : ℕ) (other : ZonePointer) (reference glyph twilight : ℕ) where
  inside : (zone : ZonePointer) → reach_of at other reference glyph twilight zone ≡ Ok tt
      → (ltb at (size_of glyph twilight zone) ≡ true) × (ltb reference (size_of glyph twilight other) ≡ true)
  unfolding reach_of both_inside size_of
  inside Glyph e = both_tests (Point at) (Point reference) _ _ e
  inside Twilight e = let h = both_tests (Point reference) (Point at) _ _ e in (h.1, h.0)

-- ---- a test of an index is a look-up in its zone
module _ (w : World) where
  abbrev pub size_in : ZonePointer → ℕ
  size_in zone = size_of (length w.gx) (length w.tx) zone

  abbrev pub place_on : ZonePointer → ℕ → Vector
  place_on zone at = place_in at w.gx w.gy w.tx w.ty zone

  abbrev found_by : ZonePointer → ℕ → Bool → Result Vector Refusal
  found_by zone at b = cond b (Ok (place_on zone at)) (Err (Point at))

  fetched_by : (zone : ZonePointer) (at : ℕ) → fetch_in at w.gx w.gy w.tx w.ty zone ≡ found_by zone at (ltb at (size_in zone))
  unfolding fetch_in fetch_of place_in size_of
  fetched_by Glyph at = refl
  fetched_by Twilight at = refl

  -- a point and rp0 of zp0
  abbrev pub reach_in : ℕ → ZonePointer → Result ⊤ Refusal
  reach_in at zone = reach_of at w.state.pointers.zp0 w.state.references.rp0 (length w.gx) (length w.tx) zone

  module _ (out : Refusal → Lined) where
    by_found_lem : (zone : ZonePointer) (at : ℕ) (rest : Vector → Lined) (b : Bool)
        → by_fetched out rest (found_by zone at b) ≡ cond b (rest (place_on zone at)) (out (Point at))
    by_found_lem zone at rest true = refl
    by_found_lem zone at rest false = refl

    point_is : (zone : ZonePointer) (at : ℕ) (rest : Vector → Lined) → point_or zone at w out rest ≡ cond (ltb at (size_in zone)) (rest (place_on zone at)) (out (Point at))
    unfolding point_or
    point_is zone at rest = ap (by_fetched out rest) (fetched_by zone at) ∙ by_found_lem zone at rest (ltb at (size_in zone))

    pub point_inside : (zone : ZonePointer) (at : ℕ) (rest : Vector → Lined) {r : Lined} → ltb at (size_in zone) ≡ true → r ≡ rest (place_on zone at) → r ≡ point_or zone at w out rest
    point_inside zone at rest h p = p ∙ sym (point_is zone at rest ∙ ap (λ (b : Bool). cond b (rest (place_on zone at)) (out (Point at))) h)

    -- ---- both look-ups
    abbrev pub by_reach : Lined → Result ⊤ Refusal → Lined
    by_reach rest (Ok tt) = rest
    by_reach rest (Err why) = out why

    both_tried : (rest : Lined) (p q : Refusal) (a b : Bool)
        → by_reach rest (cond a (cond b (Ok tt) (Err q)) (Err p)) ≡ cond a (cond b rest (out q)) (out p)
    both_tried rest p q true true = refl
    both_tried rest p q true false = refl
    both_tried rest p q false b = refl

    both_are : (one : ZonePointer) (first : ℕ) (two : ZonePointer) (second : ℕ) (rest : Vector → Vector → Lined)
        → by_reach (rest (place_on one first) (place_on two second)) (both_inside first (size_in one) second (size_in two))
        ≡ point_or one first w out (λ (p : Vector). point_or two second w out (rest p))
    unfolding both_inside
    both_are one first two second rest =
        both_tried (rest (place_on one first) (place_on two second)) (Point first) (Point second) (ltb first (size_in one)) (ltb second (size_in two))
        ∙ ap (λ (l : Lined). cond (ltb first (size_in one)) l (out (Point first))) (sym (point_is two second (rest (place_on one first))))
        ∙ sym (point_is one first (λ (p : Vector). point_or two second w out (rest p)))

    -- the first looked at first, and what the two places are
    pub both_looked_up : (one : ZonePointer) (first : ℕ) (two : ZonePointer) (second : ℕ) (rest : Vector → Vector → Lined) {r : Lined} {there said : Result ⊤ Refusal}
        → there ≡ both_inside first (size_in one) second (size_in two) → there ≡ said → r ≡ by_reach (rest (place_on one first) (place_on two second)) said
        → r ≡ point_or one first w out (λ (p : Vector). point_or two second w out (rest p))
    both_looked_up one first two second rest e t p =
        p ∙ ap (by_reach (rest (place_on one first) (place_on two second))) (sym t ∙ e) ∙ both_are one first two second rest

    reach_is : (at : ℕ) (rest : Lined) (zone : ZonePointer) → by_reach rest (reach_in at zone) ≡ both_there at w out rest zone
    unfolding reach_of both_there size_of
    reach_is at rest Glyph = both_are Glyph at w.state.pointers.zp0 w.state.references.rp0 (λ (_ _ : Vector). rest)
    reach_is at rest Twilight = both_are w.state.pointers.zp0 w.state.references.rp0 Twilight at (λ (_ _ : Vector). rest)

    -- rp0 looked at first where the point is in twilight
    pub looked_up : (at : ℕ) (rest : Lined) (zone : ZonePointer) {r : Lined} {there said : Result ⊤ Refusal} → there ≡ reach_in at zone → there ≡ said → r ≡ by_reach rest said
        → r ≡ both_there at w out rest zone
    looked_up at rest zone e t p = p ∙ ap (by_reach rest) (sym t ∙ e) ∙ reach_is at rest zone

-- ---- the twilight point made: the two points are there still
made_size : (at : ℕ) (place : Vector) (w : World) (zone other : ZonePointer) → size_in (made_in at place w zone) other ≡ size_in w other
unfolding made_in
made_size at place w Glyph other = refl
made_size at place w Twilight other = ap (λ (n : ℕ). size_of (length w.gx) n other) (length-set w.tx at place.x)

pub both_made : (w : World) (at : ℕ) (zone : ZonePointer) (out : Refusal → Lined) (rest : Vector → Vector → Lined) (put : Vector) {there : Result ⊤ Refusal} {place reference : Vector} {made : World} {r : Lined}
    → there ≡ reach_in w at zone → there ≡ Ok tt → made ≡ made_in at put w zone
    → place ≡ place_on made zone at → reference ≡ place_on made w.state.pointers.zp0 w.state.references.rp0 → r ≡ rest place reference
    → r ≡ point_or zone at made out (λ (p : Vector). point_or w.state.pointers.zp0 w.state.references.rp0 made out (rest p))
both_made w at zone out rest put {made = made} e t q o u p =
    let zp0 = w.state.pointers.zp0 in
    let rp0 = w.state.references.rp0 in
    let known = inside at zp0 rp0 (length w.gx) (length w.tx) zone (sym e ∙ t) in
    let size : (other : ZonePointer) → size_in made other ≡ size_in w other = λ other. ap (λ (v : World). size_in v other) q ∙ made_size at put w zone other in
    point_inside made out zone at _ (ap (ltb at) (size zone) ∙ known.0)
    (point_inside made out zp0 rp0 _ (ap (ltb rp0) (size zp0) ∙ known.1) (p ∙ ap₂ rest o u))
