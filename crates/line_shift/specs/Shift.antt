-- SHP[a] (0x32, 0x33) and SHPIX[] (0x38): points of zp2 shifted, as many as the loop counter says, which is 1 afterwards. OpenType's instructions of these names, and FreeType
-- 2.13.3, ttinterp.c (Ins_SHP, Ins_SHPIX, Move_Zp2_Point). The Rust decides what a bad point and a missing operand come to: the line is refused there, the points before
-- it stay moved, and the counter was set to 1 before the first point; FreeType skips a bad point where it isn't pedantic, and moves none where operands are
-- missing. A freedom vector (0, 0) looks at no point. Assumes nothing.
use Rattle.std.specs.Prelude.{ℕ, cond, true, List, ℤ}
use Rattle.answer.specs.declared.Refusal.TheVariants.{Compatibility}
use Rattle.graphics.specs.declared.Facts.{Facts}
use Rattle.graphics.specs.declared.Vectors.{Vectors}
use Rattle.line_steps.specs.Steps.{reference_in, first, looped, refused_in, shift_point}
use Rattle.math.specs.Fixed.{mul_fix14}
use Rattle.moves.specs.Move.{zp2_move_of}
use Rattle.moves.specs.declared.Move.{Move}
use Rattle.line.specs.World.{Fixed, Lined, World}

-- ---- SHP: as the reference point was. It is read first, whatever the counter is, and leaves the counter where it is refused
unfoldable pub shp_of : Fixed → ℕ → List ℤ → World → Lined
shp_of f opcode operands w =
    reference_in f opcode w λ d.
    looped operands w (shift_point (zp2_move_of w.state.vectors w.state.facts d.dx d.dy true))

-- ---- SHPIX: by an amount, which is popped once and first, along the freedom vector. Under backward compatibility it is answer 13 by document 02, K1, before any operand
abbrev pub pixel_move : Vectors → Facts → ℤ → Move
pixel_move v f amount = zp2_move_of v f (mul_fix14 amount v.freedom.x) (mul_fix14 amount v.freedom.y) true

unfoldable pub shpix_of : Fixed → ℕ → List ℤ → World → Lined
shpix_of f opcode operands w =
    cond w.state.facts.backward_compatibility (refused_in w Compatibility)
    (first operands w λ amount points. looped points w (shift_point (pixel_move w.state.vectors w.state.facts amount)))
