-- MDRP[sets rp0, minimum, rounds, colour] (0xC0 to 0xDF): brings a point of zp1 to its original distance from rp0 of zp0. Pops the point; sets rp1 and rp2, and rp0 by its bit.
-- OpenType's MDRP, and FreeType 2.13.3, ttinterp.c (Ins_MDRP). Refusals: a missing operand; then the point, then rp0, outside, where the state is pedantic, with
-- nothing changed; where it isn't the references are set all the same. The Rust decides the order of the two, and rounds before it finds a point outside: what
-- that counts goes with the line. Assumes nothing.
use Rattle.std.specs.Prelude.{ℕ, Bool, List, ℤ}
use Rattle.graphics.specs.declared.Measures.{Measures}
use Rattle.int.specs.Word.{index_of}
use Rattle.line.specs.World.{Fixed, Lined, World}
use Rattle.line_distance.specs.Distance.{finished, sets_rp0, single_outline}
use Rattle.line_distance.specs.Outline.{outline_in}
use Rattle.line_relative.specs.Relative.{related, related_or}
use Rattle.line_steps.specs.Numbers.{step_from}
use Rattle.line_steps.specs.Steps.{done_in, one, point_or, rounded_move_in}
use Rattle.projection.specs.Projection.{project_of}
use Rattle.round.specs.declared.RoundState.{RoundState}
use Rattle.round.specs.declared.Tracked.{Tracked}

-- the distance that the point is brought to, by the outline's: the single width where that is near, rounded, and no nearer than the minimum
unfoldable pub mdrp_distance : ℕ → Bool → RoundState → Measures → ℤ → Tracked
mdrp_distance opcode native round m outline =
    let d = single_outline m.single_width_cut_in m.single_width outline in
    finished opcode native round m.minimum_distance d d

unfoldable pub mdrp_of : Fixed → ℕ → List ℤ → World → Lined
mdrp_of f opcode operands w =
    one operands w λ point.
    let s = w.state in
    let zp0 = s.pointers.zp0 in
    let zp1 = s.pointers.zp1 in
    let rp0 = s.references.rp0 in
    let at = index_of point in
    let sets = sets_rp0 opcode in
    point_or zp1 at w (related_or sets at w) λ place.
    point_or zp0 rp0 w (related_or sets at w) λ reference.
    let distance = mdrp_distance opcode s.facts.native_clear_type_x s.round s.measures (outline_in f w zp1 at zp0 rp0) in
    rounded_move_in zp1 (step_from (project_of s.vectors place reference) distance) at w λ moved.
    done_in (related sets at moved)
