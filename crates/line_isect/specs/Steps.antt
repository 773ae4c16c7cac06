-- ISECT's steps as its private functions say them. Nobody need believe this: `isect_of` is what the line is held to. Assumes nothing.
use Rattle.std.specs.Prelude.{ℕ, cond, List, ltb, ℤ, length, set, Ok, Err}
use Rattle.answer.specs.declared.Refusal.TheVariants.{Point}
use Rattle.graphics.specs.declared.Vector.{Vector}
use Rattle.graphics.specs.declared.ZonePointer.TheVariants.{Glyph, Twilight}
use Rattle.graphics.specs.declared.ZonePointer.{ZonePointer}
use Rattle.crossing.specs.Crossing.{crossing_of}
use Rattle.line_steps.specs.Steps.{point_in}
use Rattle.moves.specs.Apply.{BothMoved, Moved, moved, moved_glyph, moved_twilight}
use Rattle.flags.specs.Flag.{touch_bits}
use Rattle.flags.specs.declared.CoordAxis.TheVariants.{Both}
use Rattle.line.specs.World.{Lined, World}
use Rattle.zone.specs.Zone.{or_at}

-- where the lines meet
abbrev pub meeting_in : ZonePointer → ℕ → ℕ → ZonePointer → ℕ → ℕ → World → (Vector → Lined) → Lined
meeting_in zoneA a0 a1 zoneB b0 b1 w rest =
    point_in zoneA a0 w λ aFrom.
    point_in zoneA a1 w λ aTo.
    point_in zoneB b0 w λ bFrom.
    point_in zoneB b1 w λ bTo.
    rest (crossing_of aFrom aTo bFrom bTo)

-- the point, in one zone's lists
unfoldable pub put_of : Vector → ℕ → List ℤ → List ℤ → List ℕ → Moved
put_of place at xs ys flags =
    cond (ltb at (length xs))
    (moved (Ok tt) (set xs at place.x) (set ys at place.y) (or_at flags at (touch_bits Both)))
    (moved (Err (Point at)) xs ys flags)

unfoldable pub put_in : Vector → ℕ → List ℤ → List ℤ → List ℕ → List ℤ → List ℤ → List ℕ → ZonePointer → BothMoved
put_in place at gx gy gflags tx ty tflags Glyph = moved_glyph tx ty tflags (put_of place at gx gy gflags)
put_in place at gx gy gflags tx ty tflags Twilight = moved_twilight gx gy gflags (put_of place at tx ty tflags)
