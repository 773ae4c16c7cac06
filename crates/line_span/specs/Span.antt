-- Points in a row, each shifted as the reference point was: what OpenType's SHC[a] and SHZ[a] share, and FreeType 2.13.3, ttinterp.c (Ins_SHC, Ins_SHZ), which leave the
-- reference point itself where it is. It is refused first; then nothing moves. Where contour ends rise all other points are there (`shc_refuses_none`,
-- `shz_refuses_none` of the crate laws_lines). Assumes nothing.
use Rattle.std.specs.Prelude.{ℕ, ◌-◌, suc, zero, Bool, ◌&&◌, cond, not, List, [], ◌∷◌, eqb, ℤ, pos}
use Rattle.graphics.specs.State.{is_twilight}
use Rattle.graphics.specs.declared.ZonePointer.TheVariants.{Glyph, Twilight}
use Rattle.graphics.specs.declared.ZonePointer.{ZonePointer}
use Rattle.int.specs.Word.{index_of}
use Rattle.line_steps.specs.Steps.{reference_in, done_in, each_in, shift_point}
use Rattle.moves.specs.Move.{zp2_move_of}
use Rattle.moves.specs.declared.Move.{Move}
use Rattle.line.specs.World.{Fixed, Lined, World}

-- the point `at` and those after it, so many
abbrev pub points_from : ℕ → ℕ → List ℤ
points_from at zero = []
points_from at (suc n) = pos at ∷ points_from (suc at) n

abbrev pub same_zone : ZonePointer → ZonePointer → Bool
same_zone Twilight zone = is_twilight zone
same_zone Glyph zone = not (is_twilight zone)

-- a point shifted, unless it is the one that is kept
unfoldable pub shift_but : Move → Bool → ℕ → ℤ → World → Lined
shift_but m keeps kept point w = cond (keeps && eqb (index_of point) kept) (done_in w) (shift_point m point w)

-- the points from start up to end, which is not one of them; the reference point is kept where it lies in the same zone
unfoldable pub span_in : Fixed → ℕ → Bool → ℕ → ℕ → World → Lined
span_in f opcode touches start end w =
    reference_in f opcode w λ d.
    let m = zp2_move_of w.state.vectors w.state.facts d.dx d.dy touches in
    each_in (shift_but m (same_zone d.zone w.state.pointers.zp2) d.at) (end - start) (points_from start (end - start)) w
