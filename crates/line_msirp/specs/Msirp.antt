-- MSIRP[sets rp0] (0x3A, 0x3B): brings a point of zp1 to a distance from rp0 of zp0. Pops the distance, then the point; sets rp1 and rp2, and rp0 where the opcode is odd. OpenType's
-- MSIRP, and FreeType 2.13.3, ttinterp.c (Ins_MSIRP). Refusals: a missing operand; then rp0 before a twilight point, or a glyph point before rp0, passed over where
-- the state isn't pedantic: the Rust decides that order. What a twilight point's original is made from goes by the rules (document 02, K9): rp0's original, as Ins_MSIRP has it, or
-- its own, as the Rust has it. Assumes nothing.
use Rattle.std.specs.Prelude.{ℕ, cond, List, ℤ}
use Rattle.graphics.specs.declared.Vector.{Vector}
use Rattle.graphics.specs.declared.Vectors.{Vectors}
use Rattle.int.specs.Word.{add32, index_of, sub32}
use Rattle.line_relative.specs.Relative.{both_there, related}
use Rattle.line_steps.specs.Steps.{done_in, made_in, move_in, passed_over, point_in, two}
use Rattle.moves.specs.Move.{original_move_of}
use Rattle.moves.specs.declared.Move.{Move}
use Rattle.line.specs.Operands.{is_odd}
use Rattle.projection.specs.Projection.{project_of}
use Rattle.line.specs.Places.{place_in}
use Rattle.line.specs.World.{Fixed, Lined, World}
use Rattle.rules.specs.declared.Rules.TheVariants.{FreeType, Skrifa}
use Rattle.rules.specs.declared.Rules.{Rules}
use Rattle.zone.specs.Zone.{place_of}

-- a place moved
abbrev pub moved_place : Move → Vector → Vector
moved_place m p = record { x = cond m.moves_x (add32 p.x m.dx) p.x; y = cond m.moves_y (add32 p.y m.dy) p.y }

-- where a twilight point is made: from an original, by the distance
unfoldable pub made_place : Vectors → ℤ → Vector → Vector
made_place v distance original = moved_place (original_move_of v distance) original

-- what it is made from: the reference point's original; its own by the Rust's rules
abbrev pub made_from : Rules → Vector → Vector → Vector
made_from FreeType own reference = reference
made_from Skrifa own reference = own

-- rp0 is read after the point is made
unfoldable pub msirp_of : Fixed → ℕ → List ℤ → World → Lined
msirp_of f opcode operands w =
    two operands w λ distance point.
    let s = w.state in
    let zone = s.pointers.zp1 in
    let at = index_of point in
    let reference = place_in s.references.rp0 f.gox f.goy w.tox w.toy s.pointers.zp0 in
    let made = made_in at (made_place s.vectors distance (made_from f.rules (place_of w.tox w.toy at) reference)) w zone in
    both_there at w (passed_over w)
    (point_in zone at made λ place.
    point_in s.pointers.zp0 s.references.rp0 made λ reference.
    move_in zone (sub32 distance (project_of s.vectors place reference)) at made λ moved.
    done_in (related (is_odd opcode) at moved))
    zone
