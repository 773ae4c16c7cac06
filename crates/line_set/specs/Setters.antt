-- The lines that set the state and move no point: the OpenType instructions SVTCA, SPVTCA, SFVTCA, SRP0 to SRP2, SZP0 to SZP2, SZPS, SLOOP, RTG, RTHG,
-- RTDG, RDTG, RUTG, ROFF, SROUND and S45ROUND. Document 01 gives the refusals 6, 9 and 10, and SLOOP's cap; document 02, K2, the last two lines.
-- Assumes nothing.
use Rattle.std.specs.Prelude.{ℕ, ◌%◌, min, List, [], ◌∷◌, Bool, cond, ◌&&◌, ◌||◌, ℤ, pos, nat_abs, ltb, leb, eqb}
use Rattle.std.specs.Int.Signed.{non_neg}
use Rattle.int.specs.Word.{eq_z, index_of}
use Rattle.answer.specs.declared.Refusal.TheVariants.{Missing, ZonePointer, LoopCount}
use Rattle.round.specs.declared.RoundMode.{RoundMode}
use Rattle.round.specs.declared.RoundMode.TheVariants.{Grid, HalfGrid, DoubleGrid, DownToGrid, UpToGrid, Off}
use Rattle.super_round.specs.Selector.{super_of}
use Rattle.graphics.specs.declared.GraphicsState.{GraphicsState}
use Rattle.graphics.specs.declared.Vector.{Vector}
use Rattle.graphics.specs.declared.ZonePointer.{ZonePointer as Pointer}
use Rattle.graphics.specs.declared.ZonePointer.TheVariants.{Twilight, Glyph}
use Rattle.graphics.specs.State.{x_axis, y_axis, all_along, measured_along, moved_along, in_mode, rp0_at, rp1_at, rp2_at, all_zones, zp0_in, zp1_in, zp2_in, with_vectors, with_round, with_references, with_loop_counter, with_pointers}
use Rattle.line.specs.declared.Stepped.{Stepped}
use Rattle.line.specs.Line.{done_with, refused_with}
use Rattle.line_steps.specs.Steps.{into}
use Rattle.line.specs.World.{Fixed, Lined, World}

-- what a line does with its one operand; 6 where there is none
abbrev pub on_operand : GraphicsState → (ℤ → Stepped) → List ℤ → Stepped
on_operand s f [] = refused_with s Missing
on_operand s f (word ∷ words) = f word

-- an odd opcode names the x axis
unfoldable pub axis_by : ℕ → Vector
axis_by op = cond (eqb (op % 2) 1) x_axis y_axis

-- 00 to 05: SVTCA, SPVTCA, SFVTCA
unfoldable pub vectors_by : GraphicsState → ℕ → GraphicsState
vectors_by s op =
    cond (ltb op 0x02) (with_vectors s (all_along (axis_by op)))
    (cond (ltb op 0x04) (with_vectors s (measured_along s.vectors (axis_by op))) (with_vectors s (moved_along s.vectors (axis_by op))))

-- 10 to 12: SRP0, SRP1, SRP2
unfoldable pub reference_by : GraphicsState → ℕ → ℕ → GraphicsState
reference_by s op at =
    with_references s (cond (eqb op 0x10) (rp0_at s.references at) (cond (eqb op 0x11) (rp1_at s.references at) (rp2_at s.references at)))

-- 13 to 16: SZP0, SZP1, SZP2, SZPS
unfoldable pub pointer_by : GraphicsState → ℕ → Pointer → GraphicsState
pointer_by s op zone =
    with_pointers s
    (cond (eqb op 0x13) (zp0_in s.pointers zone)
    (cond (eqb op 0x14) (zp1_in s.pointers zone) (cond (eqb op 0x15) (zp2_in s.pointers zone) (all_zones zone))))

unfoldable pub zone_by : GraphicsState → ℕ → ℤ → Stepped
zone_by s op word =
    cond (eq_z word (pos 0)) (done_with (pointer_by s op Twilight))
    (cond (eq_z word (pos 1)) (done_with (pointer_by s op Glyph)) (refused_with s (ZonePointer (index_of word))))

-- 17: SLOOP, which caps at 65,535
unfoldable pub loop_by : GraphicsState → ℤ → Stepped
loop_by s word = cond (non_neg word) (done_with (with_loop_counter s (min (nat_abs word) 65535))) (refused_with s (LoopCount (index_of word)))

-- 18, 19, 3D, 7D, 7C, 7A: RTG, RTHG, RTDG, RDTG, RUTG, ROFF
unfoldable pub mode_by : ℕ → RoundMode
mode_by op =
    cond (eqb op 0x18) Grid
    (cond (eqb op 0x19) HalfGrid (cond (eqb op 0x3D) DoubleGrid (cond (eqb op 0x7D) DownToGrid (cond (eqb op 0x7C) UpToGrid Off))))

-- 10 to 17, 76, 77: the lines with one operand
abbrev pub takes_operand : ℕ → Bool
takes_operand op = (leb 0x10 op && leb op 0x17) || (leb 0x76 op && leb op 0x77)

unfoldable pub operand_by : GraphicsState → ℕ → ℤ → Stepped
operand_by s op word =
    cond (ltb op 0x13) (done_with (reference_by s op (index_of word)))
    (cond (ltb op 0x17) (zone_by s op word) (cond (ltb op 0x18) (loop_by s word) (done_with (with_round s (super_of (eqb op 0x77) word)))))

-- a line that sets the state, by its opcode
unfoldable pub set_by : GraphicsState → ℕ → List ℤ → Stepped
set_by s op operands =
    cond (ltb op 0x06) (done_with (vectors_by s op))
    (cond (takes_operand op) (on_operand s (operand_by s op) operands) (done_with (with_round s (in_mode s.round (mode_by op)))))

-- the same of a world, whose lists it leaves
unfoldable pub set_of : Fixed → ℕ → List ℤ → World → Lined
set_of f opcode operands w = into w (set_by w.state opcode operands)
