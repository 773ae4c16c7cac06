-- Which lists make a zone: document 01, "What the replayer holds" and "Sizes": a zone's lists share one length, which is within the limit.
-- Answer 2 where the test says no. FreeType gives the twilight zone max(30, 2 (n + control values)) points and no more. Assumes nothing.
use Rattle.std.specs.Prelude.{ℕ, Bool, ◌&&◌, List, leb, eqb, ℤ, length}
use Rattle.limits.specs.Limits.{most_points, most_contours}

unfoldable pub pair_fits : List ℤ → List ℤ → Bool
pair_fits xs ys = eqb (length ys) (length xs) && leb (length xs) most_points

unfoldable pub flags_fit : List ℕ → Bool
flags_fit flags = leb (length flags) most_points

unfoldable pub placed_fits : List ℤ → List ℤ → List ℕ → Bool
placed_fits xs ys flags = eqb (length flags) (length xs) && pair_fits xs ys

unfoldable pub twilight_fits : List ℤ → List ℤ → List ℤ → List ℤ → List ℕ → Bool
twilight_fits ox oy cx cy flags = eqb (length ox) (length cx) && pair_fits ox oy && placed_fits cx cy flags

unfoldable pub glyph_fits : List ℤ → List ℤ → List ℤ → List ℤ → List ℤ → List ℤ → List ℕ → List ℕ → Bool
glyph_fits ux uy ox oy cx cy flags contours =
    eqb (length ux) (length cx) && pair_fits ux uy && twilight_fits ox oy cx cy flags && leb (length contours) most_contours
