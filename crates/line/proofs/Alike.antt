-- What the sizes tell: where they fit, the lists of each zone share one length, and nothing is above its limit. Assumes nothing.
use mathlib.Core.Bool.{◌&&◌, true}
use mathlib.Core.List.{List}
use Prim.Native.Nat.{◌≤◌, ℕ}
use mathlib.Core.Path.{◌∙◌, ◌≡◌}
use lib.Dec.{eqb, leb}
use borrow.Author.Tests.{eqb-true, leb-true}
use lib.ListN.{length}
use lib.IntN.{ℤ}
use Rattle.limits.specs.Limits.{most_contours, most_control_values, most_points, most_words}
use Rattle.zone.specs.Sizes.{glyph_fits, pair_fits, placed_fits, twilight_fits}
use Rattle.zone.proofs.Cases.{pair_length, placed_length, placed_pair}
use Rattle.line.specs.Sizes.{fits, world_fits}
use Rattle.line.specs.World.{Alike, Fixed, World}
use Rattle.graphics.proofs.Laws.{and_left, and_right}

twilight_alike : (ox oy cx cy : List ℤ) (flags : List ℕ) → twilight_fits ox oy cx cy flags ≡ true
    → (length ox ≡ length cx) × (length oy ≡ length ox) × (length cy ≡ length cx) × (length flags ≡ length cx)
unfolding twilight_fits
twilight_alike ox oy cx cy flags e =
    let two : eqb (length ox) (length cx) && pair_fits ox oy ≡ true = and_left _ (placed_fits cx cy flags) e in
    let p : placed_fits cx cy flags ≡ true = and_right (eqb (length ox) (length cx) && pair_fits ox oy) _ e in
    (eqb-true (length ox) (length cx) (and_left _ (pair_fits ox oy) two), pair_length ox oy (and_right (eqb (length ox) (length cx)) _ two), pair_length cx cy (placed_pair cx cy flags p), placed_length cx cy flags p)

glyph_alike : (ux uy ox oy cx cy : List ℤ) (flags contours : List ℕ) → glyph_fits ux uy ox oy cx cy flags contours ≡ true
    → (length ux ≡ length cx) × (length uy ≡ length ux) × (twilight_fits ox oy cx cy flags ≡ true)
unfolding glyph_fits
glyph_alike ux uy ox oy cx cy flags contours e =
    let three : eqb (length ux) (length cx) && pair_fits ux uy && twilight_fits ox oy cx cy flags ≡ true = and_left _ (leb (length contours) most_contours) e in
    let two : eqb (length ux) (length cx) && pair_fits ux uy ≡ true = and_left _ (twilight_fits ox oy cx cy flags) three in
    (eqb-true (length ux) (length cx) (and_left _ (pair_fits ux uy) two), pair_length ux uy (and_right (eqb (length ux) (length cx)) _ two), and_right (eqb (length ux) (length cx) && pair_fits ux uy) _ three)

alike_by : (f : Fixed) (w : World) → glyph_fits f.gux f.guy f.gox f.goy w.gx w.gy w.gflags f.contours ≡ true
    → twilight_fits w.tox w.toy w.tx w.ty w.tflags ≡ true
    → Alike f w
alike_by f w g t =
    let a = glyph_alike f.gux f.guy f.gox f.goy w.gx w.gy w.gflags f.contours g in
    let o = twilight_alike f.gox f.goy w.gx w.gy w.gflags a.2 in
    let m = twilight_alike w.tox w.toy w.tx w.ty w.tflags t in
    (a.0, a.1 ∙ a.0, o.0, o.1 ∙ o.0, o.2, o.3, m.1, m.2, m.3, m.0)

-- the tests of both zones, out of all four
zones_fit : (f : Fixed) (sheet : List ℤ) (w : World) → world_fits f sheet w ≡ true
    → (glyph_fits f.gux f.guy f.gox f.goy w.gx w.gy w.gflags f.contours ≡ true)
    × (twilight_fits w.tox w.toy w.tx w.ty w.tflags ≡ true)
unfolding fits
zones_fit f sheet w e =
    let g = glyph_fits f.gux f.guy f.gox f.goy w.gx w.gy w.gflags f.contours in
    let t = twilight_fits w.tox w.toy w.tx w.ty w.tflags in
    let three : g && t && leb (length f.controls) most_control_values ≡ true = and_left _ (leb (length sheet) most_words) e in
    let two : g && t ≡ true = and_left _ (leb (length f.controls) most_control_values) three in
    (and_left g t two, and_right g t two)

pub fits_alike : (f : Fixed) (sheet : List ℤ) (w : World) → world_fits f sheet w ≡ true → Alike f w
fits_alike f sheet w e = let z = zones_fit f sheet w e in alike_by f w z.0 z.1

-- ---- the limits
pair_most : (xs ys : List ℤ) → pair_fits xs ys ≡ true → length xs ≤ most_points
unfolding pair_fits
pair_most xs ys e = leb-true (length xs) most_points (and_right (eqb (length ys) (length xs)) _ e)

twilight_most : (ox oy cx cy : List ℤ) (flags : List ℕ) → twilight_fits ox oy cx cy flags ≡ true → length cx ≤ most_points
unfolding twilight_fits
twilight_most ox oy cx cy flags e =
    pair_most cx cy (placed_pair cx cy flags (and_right (eqb (length ox) (length cx) && pair_fits ox oy) _ e))

glyph_most : (ux uy ox oy cx cy : List ℤ) (flags contours : List ℕ) → glyph_fits ux uy ox oy cx cy flags contours ≡ true
    → (length cx ≤ most_points) × (length contours ≤ most_contours)
unfolding glyph_fits
glyph_most ux uy ox oy cx cy flags contours e =
    let front = eqb (length ux) (length cx) && pair_fits ux uy in
    let three : front && twilight_fits ox oy cx cy flags ≡ true = and_left _ (leb (length contours) most_contours) e in
    (twilight_most ox oy cx cy flags (and_right front _ three), leb-true (length contours) most_contours (and_right (front && twilight_fits ox oy cx cy flags) _ e))

-- and nothing is above its limit
pub record Most (f : Fixed) (sheet : List ℤ) (w : World) : Type 0 where
  pub points : length w.gx ≤ most_points
  pub contours : length f.contours ≤ most_contours
  pub twilight : length w.tx ≤ most_points
  pub controls : length f.controls ≤ most_control_values
  pub words : length sheet ≤ most_words

pub fits_most : (f : Fixed) (sheet : List ℤ) (w : World) → world_fits f sheet w ≡ true → Most f sheet w
unfolding fits
fits_most f sheet w e =
    let z = zones_fit f sheet w e in
    let g = glyph_fits f.gux f.guy f.gox f.goy w.gx w.gy w.gflags f.contours in
    let t = twilight_fits w.tox w.toy w.tx w.ty w.tflags in
    let k = leb (length f.controls) most_control_values in
    let three : g && t && k ≡ true = and_left _ (leb (length sheet) most_words) e in
    let glyph = glyph_most f.gux f.guy f.gox f.goy w.gx w.gy w.gflags f.contours z.0 in
    record {
      points = glyph.0;
      contours = glyph.1;
      twilight = twilight_most w.tox w.toy w.tx w.ty w.tflags z.1;
      controls = leb-true (length f.controls) most_control_values (and_right (g && t) k three);
      words = leb-true (length sheet) most_words (and_right (g && t && k) (leb (length sheet) most_words) e);
    }
