-- What GC and MD find, as their private functions say it. Nobody need believe this: `gc_of` and `md_of` of Measure.antt are what the lines are held to.
-- Assumes nothing.
use Rattle.answer.specs.declared.Refusal.{Refusal}
use Rattle.std.specs.Prelude.{ℕ, Bool, ◌&&◌, ◌||◌, cond, List, ltb, ℤ, pos, length, Result, Ok, Err}
use Rattle.graphics.specs.declared.Vector.{Vector}
use Rattle.graphics.specs.declared.Vectors.{Vectors}
use Rattle.graphics.specs.declared.ZonePointer.{ZonePointer}
use Rattle.line.specs.Places.{fetch_in}
use Rattle.line.specs.World.{Lined, World}
use Rattle.line_distance.specs.Outline.{unscaled_apart}
use Rattle.projection.specs.Projection.{along_of}
use Rattle.line_measure.specs.Measure.{pushes, zero_or}

-- ---- what is found
-- a point of the original outline, or where it is now
unfoldable pub looked_up : Bool → ZonePointer → ℕ → List ℤ → List ℤ → List ℤ → List ℤ → List ℤ → List ℤ → List ℤ → List ℤ → Result Vector Refusal
looked_up original zone at gox goy gx gy tox toy tx ty = cond original (fetch_in at gox goy tox toy zone) (fetch_in at gx gy tx ty zone)

-- the dual vector in the original outline
abbrev pub vector_for : Bool → Vectors → Vector
vector_for original v = cond original v.dual v.projection

-- how far the first lies from the second, the first looked at first
unfoldable pub apart_of : Vector → Result Vector Refusal → Result Vector Refusal → Result ℤ Refusal
apart_of v (Err why) second = Err why
apart_of v (Ok here) (Err why) = Err why
apart_of v (Ok here) (Ok there) = Ok (along_of v here there)

-- how far a lies from b, two points of the original glyph
unfoldable pub glyph_apart : Bool → Vector → ℤ → ℕ → ℕ → List ℤ → List ℤ → ℤ
glyph_apart pedantic v scale a b gux guy = cond (pedantic || (ltb a (length gux) && ltb b (length gux))) (unscaled_apart v scale a b gux guy) (pos 0)

-- ---- what is pushed
abbrev pub by_measured : World → Result ℤ Refusal → Lined
by_measured w (Ok d) = pushes d w
by_measured w (Err why) = zero_or w why
