-- Whether a point and rp0 are there, as the functions that look say it. Nobody need believe this: `both_there` of Relative.antt is what a line is held to.
-- Assumes nothing.
use Rattle.answer.specs.declared.Refusal.{Refusal}
use Rattle.std.specs.Prelude.{ℕ, cond, ltb, ⊤, Result, Ok, Err}
use Rattle.answer.specs.declared.Refusal.TheVariants.{Point}
use Rattle.graphics.specs.declared.ZonePointer.TheVariants.{Glyph, Twilight}
use Rattle.graphics.specs.declared.ZonePointer.{ZonePointer}
use Rattle.line.specs.Places.{size_of}

unfoldable pub both_inside : ℕ → ℕ → ℕ → ℕ → Result ⊤ Refusal
both_inside first firsts second seconds =
    cond (ltb first firsts) (cond (ltb second seconds) (Ok tt) (Err (Point second))) (Err (Point first))

-- rp0 first where the point is in twilight
unfoldable pub reach_of : ℕ → ZonePointer → ℕ → ℕ → ℕ → ZonePointer → Result ⊤ Refusal
reach_of at other reference glyph twilight Glyph = both_inside at glyph reference (size_of glyph twilight other)
reach_of at other reference glyph twilight Twilight = both_inside reference (size_of glyph twilight other) at twilight
