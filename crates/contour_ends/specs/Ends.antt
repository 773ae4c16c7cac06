-- A glyph's contours, each given by its last point: document 02, K8. The numbers rise strictly and lie below n, the number of points; OpenType's glyf table wants them in increasing
-- order, and FreeType 2.13.3, ttgload.c (TT_Load_Simple_Glyph), loads no other glyph. Assumes nothing.
use Rattle.std.specs.Prelude.{ℕ, suc, Bool, ◌&&◌, true, List, [], ◌∷◌, leb, ltb}

-- from `least` on: a contour has a point at least, since it begins where the last one ended
unfoldable pub rising_from : ℕ → ℕ → List ℕ → Bool
rising_from least n [] = true
rising_from least n (end ∷ ends) = leb least end && (ltb end n && rising_from (suc end) n ends)

abbrev pub ends_rise : ℕ → List ℕ → Bool
ends_rise n contours = rising_from 0 n contours
