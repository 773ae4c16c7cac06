-- What each definition says inside and outside, over plain lists: the functions' proofs cite these, and each is one test rewritten.
-- Assumes nothing.
use Rattle.std.specs.Prelude.{Ok, Err}
use mathlib.Core.Path.{◌≡◌, refl, ap, ap₂, ◌∙◌}
use mathlib.Core.Bool.{Bool, true, ◌&&◌}
use mathlib.Core.List.{List, [], ◌∷◌, ◌++◌, map}
use Prim.Native.Nat.{ℕ, zero, suc, ◌-◌, ◌≤◌, ◌<◌}
use native.Mathlib.Omega.{arith}
use borrow.Author.Tests.{eqb-true, lt-ltb, le-ltb, le-leb, lt-leb}
use lib.Dec.{eqb, leb}
use lib.IntN.{ℤ}
use lib.ListN.{length, take, drop, get_or}
use borrow.Rule.Slice.PartMut.{put_mid, Post-is}
use Rattle.answer.specs.declared.Refusal.TheVariants.{Point, Range}
use Rattle.graphics.specs.declared.Vector.{Vector}
use Rattle.limits.specs.Limits.{most_contours}
use Rattle.flags.specs.Flag.{has_any, touch_bits}
use Rattle.flags.specs.declared.CoordAxis.{CoordAxis}
use Rattle.zone.specs.Sizes.{glyph_fits, pair_fits, placed_fits, twilight_fits}
use Rattle.zone.specs.Zone.{place_of, fetch_of, marked, change_at, marked_at, touched_of, on_curve, over_part, set_on_curve_of}
use Rattle.graphics.proofs.Laws.{and_left, and_right}

-- ---- the tests of a zone's lists, by what their calls ensure
pub placed_are : (xs ys : List ℤ) (flags : List ℕ) {p : Bool} → p ≡ pair_fits xs ys → eqb (length flags) (length xs) && p ≡ placed_fits xs ys flags
unfolding placed_fits
placed_are xs ys flags e = ap (λ (b : Bool). eqb (length flags) (length xs) && b) e

module _ (ox oy cx cy : List ℤ) (flags : List ℕ) where
  pub twilight_are : {o p : Bool} → o ≡ pair_fits ox oy → p ≡ placed_fits cx cy flags → eqb (length ox) (length cx) && o && p ≡ twilight_fits ox oy cx cy flags
  unfolding twilight_fits
  twilight_are e f = ap₂ (λ (a b : Bool). eqb (length ox) (length cx) && a && b) e f

  pub glyph_are :
      (ux uy : List ℤ) (contours : List ℕ) {u t c : Bool} → u ≡ pair_fits ux uy → t ≡ twilight_fits ox oy cx cy flags → c ≡ leb (length contours) most_contours →
      eqb (length ux) (length cx) && u && t && c ≡ glyph_fits ux uy ox oy cx cy flags contours
  unfolding glyph_fits
  glyph_are ux uy contours e f g = rw (e, f, g) refl

-- ---- one point
-- two coordinates, as they were read
pub read_as : {x x' x'' y y' y'' : ℤ} → x'' ≡ x' → x' ≡ x → y'' ≡ y' → y' ≡ y → ◌≡◌ {A = Vector} (record { x = x''; y = y'' }) (record { x = x; y = y })
read_as ex' ex ey' ey = rw (ex', ex, ey', ey) refl

module _ (xs ys : List ℤ) (at : ℕ) where
  pub fetched : at < length xs → {place : Vector} → place ≡ place_of xs ys at → Ok place ≡ fetch_of xs ys at
  unfolding fetch_of
  fetched h e = rw (lt-ltb at (length xs) h) (ap Ok e)

  pub not_fetched : length xs ≤ at → Err (Point at) ≡ fetch_of xs ys at
  unfolding fetch_of
  not_fetched h = rw (le-ltb at (length xs) h)

-- past the end a list reads as its default
pub get_d_out : {A : Type 0} (l : List A) (at : ℕ) (d : A) → length l ≤ at → get_or l at d ≡ d
get_d_out [] at d h = refl
get_d_out (x ∷ l) zero d h = absurd (omega arith)
get_d_out (x ∷ l) (suc at) d h = get_d_out l at d (omega arith)

module _ (f : ℕ → ℕ) (flags : List ℕ) (at : ℕ) where
  pub marked_in : at < length flags → {l : List ℕ} → l ≡ change_at f flags at → marked (Ok tt) l ≡ marked_at f flags at
  unfolding marked_at
  marked_in h e = rw (lt-ltb at (length flags) h) (ap (marked (Ok tt)) e)

  pub marked_out : length flags ≤ at → marked (Err (Point at)) flags ≡ marked_at f flags at
  unfolding marked_at
  marked_out h = rw (le-ltb at (length flags) h)

module _ (flags : List ℕ) (at : ℕ) (axis : CoordAxis) where
  pub touched_in : at < length flags → {b : Bool} → b ≡ has_any (get_or flags at 0) (touch_bits axis) → Ok b ≡ touched_of flags at axis
  unfolding touched_of
  touched_in h e = rw (lt-ltb at (length flags) h) (ap Ok e)

  pub touched_out : length flags ≤ at → Err (Point at) ≡ touched_of flags at axis
  unfolding touched_of
  touched_out h = rw (le-ltb at (length flags) h)

-- ---- a range
-- a part that was lent and came back
pub placed : {A : Type 0} (f : List A → List A) (a e : ℕ) (l : List A) {part : List A} → a ≤ e → part ≡ f (take (e - a) (drop a l)) → put_mid a (e - a) l part ≡ over_part f a e l
unfolding over_part
placed f a e l h q =
    ap (put_mid a (e - a) l) q ∙ ap (λ (t : List _). take a l ++ (f (take (e - a) (drop a l)) ++ t)) (Post-is a e l h)

module _ (flags : List ℕ) (start end : ℕ) (on : Bool) where
  pub range_in : start ≤ end → end ≤ length flags → {l : List ℕ} → l ≡ over_part (map (on_curve on)) start end flags → marked (Ok tt) l ≡ set_on_curve_of flags start end on
  unfolding set_on_curve_of
  range_in h k e = rw (le-leb start end h, le-leb end (length flags) k) (ap (marked (Ok tt)) e)

  pub range_reversed : end < start → marked (Err (Range start)) flags ≡ set_on_curve_of flags start end on
  unfolding set_on_curve_of
  range_reversed h = rw (lt-leb start end h)

  pub range_out : start ≤ end → length flags < end → marked (Err (Range start)) flags ≡ set_on_curve_of flags start end on
  unfolding set_on_curve_of
  range_out h k = rw (le-leb start end h, lt-leb end (length flags) k)

-- ---- what the size tests tell
pub pair_length : (xs ys : List ℤ) → pair_fits xs ys ≡ true → length ys ≡ length xs
unfolding pair_fits
pair_length xs ys e = eqb-true (length ys) (length xs) (and_left (eqb (length ys) (length xs)) _ e)

pub placed_length : (xs ys : List ℤ) (flags : List ℕ) → placed_fits xs ys flags ≡ true → length flags ≡ length xs
unfolding placed_fits
placed_length xs ys flags e = eqb-true (length flags) (length xs) (and_left (eqb (length flags) (length xs)) _ e)

pub placed_pair : (xs ys : List ℤ) (flags : List ℕ) → placed_fits xs ys flags ≡ true → pair_fits xs ys ≡ true
unfolding placed_fits
placed_pair xs ys flags e = and_right (eqb (length flags) (length xs)) _ e
