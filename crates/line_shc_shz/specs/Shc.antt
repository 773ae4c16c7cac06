-- SHC[a] (0x34, 0x35) and SHZ[a] (0x36, 0x37): the points of a contour, or of a zone, of zp2 shifted as the reference point was, all but that point. OpenType's instructions
-- of these names, and FreeType 2.13.3, ttinterp.c (Ins_SHC, Ins_SHZ): the twilight zone has one contour of all its points; SHZ shifts zp2's zone as far as the
-- last contour goes, and touches nothing. SHZ's operand names a zone, whose points OpenType's text would shift; FreeType and the Rust shift zp2's. Document 02, K1,
-- decides what a bad contour and a bad zone come to, and that both are tested before the reference point. The points of a row are the crate line_span's. Assumes nothing.
use Rattle.std.specs.Prelude.{ℕ, suc, zero, cond, false, true, List, ltb, ℤ, get_or, length}
use Rattle.answer.specs.declared.Refusal.TheVariants.{Contour}
use Rattle.answer.specs.declared.Refusal.TheVariants.{ZonePointer as BadZone}
use Rattle.int.specs.Word.{index_of}
use Rattle.line_span.specs.Span.{span_in}
use Rattle.line_steps.specs.Steps.{one, passed_over, refused_in}
use Rattle.line.specs.Places.{size_of}
use Rattle.line.specs.World.{Fixed, Lined, World}

-- ---- SHC: pops the contour
-- the point after so many contours: the one after the end of the last of them
abbrev pub point_after : List ℕ → ℕ → ℕ
point_after contours zero = 0
point_after contours (suc k) = suc (get_or contours k 0)

-- one that isn't there is answer 12 if pedantic (`size_of` takes its first number for the glyph, its second for twilight)
unfoldable pub shc_of : Fixed → ℕ → List ℤ → World → Lined
shc_of f opcode operands w =
    one operands w λ contour.
    let index = index_of contour in
    let zone = w.state.pointers.zp2 in
    cond (ltb index (size_of (length f.contours) 1 zone))
    (span_in f opcode true (point_after f.contours index) (size_of (point_after f.contours (suc index)) (length w.tx) zone) w)
    (passed_over w (Contour index))

-- ---- SHZ: pops the zone, 0 or 1
unfoldable pub shz_of : Fixed → ℕ → List ℤ → World → Lined
shz_of f opcode operands w =
    one operands w λ zone.
    cond (ltb 1 (index_of zone)) (refused_in w (BadZone (index_of zone)))
    (span_in f opcode false 0 (size_of (point_after f.contours (length f.contours)) (length w.tx) w.state.pointers.zp2) w)
