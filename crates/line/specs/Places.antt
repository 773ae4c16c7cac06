-- Points of the zone that a pointer names: OpenType, "Instructing TrueType Glyphs" (zone pointers), and FreeType 2.13.3, ttinterp.c (the zones
-- zp0, zp1 and zp2 of an execution context). Assumes nothing.
use Rattle.answer.specs.declared.Refusal.{Refusal}
use Rattle.std.specs.Prelude.{ℕ, List, ℤ, set, Result}
use Rattle.graphics.specs.declared.Vector.{Vector}
use Rattle.graphics.specs.declared.ZonePointer.TheVariants.{Twilight, Glyph}
use Rattle.graphics.specs.declared.ZonePointer.{ZonePointer}
use Rattle.zone.specs.Zone.{place_of, fetch_of}

-- (0, 0) outside
unfoldable pub place_in : ℕ → List ℤ → List ℤ → List ℤ → List ℤ → ZonePointer → Vector
place_in at gx gy tx ty Glyph = place_of gx gy at
place_in at gx gy tx ty Twilight = place_of tx ty at

unfoldable pub fetch_in : ℕ → List ℤ → List ℤ → List ℤ → List ℤ → ZonePointer → Result Vector Refusal
fetch_in at gx gy tx ty Glyph = fetch_of gx gy at
fetch_in at gx gy tx ty Twilight = fetch_of tx ty at

unfoldable pub size_of : ℕ → ℕ → ZonePointer → ℕ
size_of glyph twilight Glyph = glyph
size_of glyph twilight Twilight = twilight

-- ---- the point that a line puts somewhere
-- two lists of coordinates
pub record Pair : Type 0 where
  pub xs : List ℤ
  pub ys : List ℤ

abbrev pub pair : List ℤ → List ℤ → Pair
pair xs ys = record { xs = xs; ys = ys }

-- a point put somewhere; outside none
abbrev pub put_at : Vector → ℕ → List ℤ → List ℤ → Pair
put_at place at xs ys = pair (set xs at place.x) (set ys at place.y)
