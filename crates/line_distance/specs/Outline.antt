-- How far one point lies from another in the original outline, for MD, MDRP and MIRP: OpenType's dual projection vector, and FreeType 2.13.3, ttinterp.c (Ins_MD, Ins_MDRP, Ins_MIRP), on
-- words that wrap. Two points of the glyph are measured as the font has them, unscaled, and what comes of it is scaled; where one is in twilight, which has no such
-- points, originals are measured; each along the vector that is given, in a run the dual one (`outline_in`). A point outside is (0, 0): the lines say when one is looked at.
-- Assumes nothing.
use Rattle.std.specs.Prelude.{ℕ, ◌||◌, cond, List, ℤ}
use Rattle.graphics.specs.State.{is_twilight}
use Rattle.graphics.specs.declared.Vector.{Vector}
use Rattle.graphics.specs.declared.ZonePointer.{ZonePointer}
use Rattle.math.specs.Fixed.{mul_fix}
use Rattle.projection.specs.Projection.{along_of}
use Rattle.line.specs.Places.{place_in}
use Rattle.line.specs.World.{Fixed, World}
use Rattle.zone.specs.Zone.{place_of}

-- between two original points
unfoldable pub originals_apart : Vector → ZonePointer → ℕ → ZonePointer → ℕ → List ℤ → List ℤ → List ℤ → List ℤ → ℤ
originals_apart v p a q b gox goy tox toy = along_of v (place_in a gox goy tox toy p) (place_in b gox goy tox toy q)

-- between two unscaled ones, in pixels: the scale is a 16.16 number
unfoldable pub unscaled_apart : Vector → ℤ → ℕ → ℕ → List ℤ → List ℤ → ℤ
unscaled_apart v scale a b gux guy = mul_fix (along_of v (place_of gux guy a) (place_of gux guy b)) scale

unfoldable pub outline_of : Vector → ℤ → ZonePointer → ℕ → ZonePointer → ℕ → List ℤ → List ℤ → List ℤ → List ℤ → List ℤ → List ℤ → ℤ
outline_of v scale p a q b gux guy gox goy tox toy =
    cond (is_twilight p || is_twilight q) (originals_apart v p a q b gox goy tox toy) (unscaled_apart v scale a b gux guy)

-- in what a run holds
abbrev pub outline_in : Fixed → World → ZonePointer → ℕ → ZonePointer → ℕ → ℤ
outline_in f w p a q b =
    outline_of w.state.vectors.dual w.state.measures.scale p a q b f.gux f.guy f.gox f.goy w.tox w.toy
