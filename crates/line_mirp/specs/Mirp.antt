-- MIRP[sets rp0, minimum, rounds, colour] (0xE0 to 0xFF): brings a point of zp1 to a control value's distance from rp0 of zp0, by the cut-in and the round state. Pops the control value's
-- number, where -1 stands for the value 0, then the point; sets rp1 and rp2, and rp0 by its bit. OpenType's MIRP, and FreeType 2.13.3, ttinterp.c (Ins_MIRP). Refusals: a
-- missing operand; then, where the state is pedantic, the control value, and the first of the two points that is outside, rp0 before a twilight point and a glyph
-- point before rp0, with nothing changed; where it isn't the references are set all the same. The Rust decides that order, and that a twilight point is made by
-- a 16.16 product of the 2.14 freedom vector, so that it lies a quarter as far as FreeType's. Assumes nothing.
use Rattle.std.specs.Prelude.{ℕ, ◌-◌, Bool, ◌&&◌, cond, false, true, List, eqb, leb, ℤ, pos, get_or, length}
use Rattle.answer.specs.declared.Refusal.TheVariants.{ControlValue}
use Rattle.answer.specs.declared.Refusal.{Refusal}
use Rattle.graphics.specs.declared.Measures.{Measures}
use Rattle.graphics.specs.declared.Vector.{Vector}
use Rattle.graphics.specs.declared.ZonePointer.TheVariants.{Glyph, Twilight}
use Rattle.graphics.specs.declared.ZonePointer.{ZonePointer}
use Rattle.int.specs.Word.{add32, index_of}
use Rattle.line.specs.Places.{place_in}
use Rattle.line.specs.World.{Fixed, Lined, World}
use Rattle.line_distance.specs.Distance.{chosen_of, cut_in_of, finished, flipped_of, rounds, sets_rp0, single_control}
use Rattle.line_distance.specs.Outline.{originals_apart}
use Rattle.line_relative.specs.Relative.{both_there, related, related_or}
use Rattle.line_steps.specs.Numbers.{step_from}
use Rattle.line_steps.specs.Steps.{done_in, made_in, point_in, rounded_move_in, two}
use Rattle.math.specs.Fixed.{mul_fix}
use Rattle.projection.specs.Projection.{project_of}
use Rattle.round.specs.declared.RoundState.{RoundState}
use Rattle.round.specs.declared.Tracked.{Tracked}

-- ---- the control value, by one more than its number, as an index
unfoldable pub control_by : Fixed → ℕ → (Refusal → Lined) → (ℤ → Lined) → Lined
control_by f next out rest =
    cond (eqb next 0) (rest (pos 0))
    (cond (leb next (length f.controls)) (rest (get_or f.controls (next - 1) (pos 0))) (out (ControlValue (next - 1))))

-- ---- a twilight point is made at the control value's distance from rp0's original, along the freedom vector
unfoldable pub mirp_place : Vector → ℤ → Vector → Vector
mirp_place freedom control reference =
    record { x = add32 reference.x (mul_fix control freedom.x); y = add32 reference.y (mul_fix control freedom.y) }

-- ---- the distance
abbrev pub same_zone : ZonePointer → ZonePointer → Bool
same_zone Glyph Glyph = true
same_zone Twilight Twilight = true
same_zone Glyph Twilight = false
same_zone Twilight Glyph = false

-- that the point is brought to, by the original one and the control value: flipped to the original's side, that or the original by the cut-in where the line rounds within a zone,
-- then rounded, and no nearer than the minimum
unfoldable pub mirp_distance : ℕ → Bool → Bool → RoundState → Measures → ℤ → ℤ → Tracked
mirp_distance opcode within native round m control original =
    let flipped = flipped_of m.auto_flip original control in
    let near = cond (rounds opcode && within) (chosen_of (cut_in_of native m.cut_in) flipped original) flipped in
    finished opcode native round m.minimum_distance original near

-- ---- the line
unfoldable pub mirp_of : Fixed → ℕ → List ℤ → World → Lined
mirp_of f opcode operands w =
    two operands w λ entry point.
    let s = w.state in
    let m = s.measures in
    let zp0 = s.pointers.zp0 in
    let zp1 = s.pointers.zp1 in
    let rp0 = s.references.rp0 in
    let at = index_of point in
    let sets = sets_rp0 opcode in
    control_by f (index_of (add32 entry (pos 1))) (related_or sets at w) λ value.
    let control = single_control m.single_width_cut_in m.single_width value in
    let made = made_in at (mirp_place s.vectors.freedom control (place_in rp0 f.gox f.goy w.tox w.toy zp0)) w zp1 in
    both_there at w (related_or sets at w)
    (point_in zp1 at made λ place.
    point_in zp0 rp0 made λ reference.
    let original = originals_apart s.vectors.dual zp1 at zp0 rp0 f.gox f.goy made.tox made.toy in
    let distance = mirp_distance opcode (same_zone zp0 zp1) s.facts.native_clear_type_x s.round m control original in
    rounded_move_in zp1 (step_from (project_of s.vectors place reference) distance) at made λ moved.
    done_in (related sets at moved))
    zp1
