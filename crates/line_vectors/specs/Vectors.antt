-- The lines that turn a vector: SPVTL[a] (0x06, 0x07), SFVTL[a] (0x08, 0x09) and SDPVTL[a] (0x86, 0x87) along a line or across it, SPVFS[] (0x0A) and SFVFS[] (0x0B) from the
-- stack, SFVTPV[] (0x0E). OpenType's instructions of these names, and FreeType 2.13.3, ttinterp.c (Ins_SxVTL, Ins_SDPVTL, Ins_SxVFS, Ins_SFVTPV).
-- The Rust decides where it differs: a point outside is refused, pedantic or not, zp1's first, where FreeType passes the line over; and where SDPVTL's
-- original points are one, FreeType takes the current ones along the line, whatever the opcode says. Assumes nothing.
use Rattle.std.specs.Prelude.{ℕ, Bool, cond, ◌&&◌, List, [], ◌∷◌, eqb, ltb, ℤ, pos}
use Rattle.std.specs.Int.Signed.{shr_z}
use Rattle.answer.specs.declared.Refusal.TheVariants.{Missing}
use Rattle.graphics.specs.State.{measured_along, moved_along, with_vectors, x_axis}
use Rattle.graphics.specs.declared.GraphicsState.{GraphicsState}
use Rattle.graphics.specs.declared.Vector.{Vector}
use Rattle.int.specs.Word.{eq_z, index_of, mul32, neg32, sub32}
use Rattle.line.specs.Line.{done_with, refused_with}
use Rattle.line.specs.Operands.{is_odd}
use Rattle.line.specs.World.{Fixed, Lined, World}
use Rattle.line.specs.declared.Stepped.{Stepped}
use Rattle.line_measure.specs.Measure.{original_or}
use Rattle.line_steps.specs.Steps.{done_in, in_state, into, point_in, refused_in, two}
use Rattle.normalize.specs.Unit.{unit_of}

-- ---- along a line of two points, or across it
-- from q to p; across is a quarter turn counter-clockwise; two points in one place give the x axis
unfoldable pub line_vector : Bool → Vector → Vector → Vector
line_vector across p q =
    let a = sub32 p.x q.x in
    let b = sub32 p.y q.y in
    cond (eq_z a (pos 0) && eq_z b (pos 0)) x_axis (cond across (unit_of (neg32 b) a) (unit_of a b))

-- 06, 07: the projection and the dual vector; 08, 09: the freedom vector
unfoldable pub along_at : GraphicsState → ℕ → Vector → GraphicsState
along_at s op v = cond (ltb op 0x08) (with_vectors s (measured_along s.vectors v)) (with_vectors s (moved_along s.vectors v))

-- SPVTL, SFVTL: an odd opcode is across
unfoldable pub to_line_of : Fixed → ℕ → List ℤ → World → Lined
to_line_of f opcode operands w =
    two operands w λ second first.
    let p = w.state.pointers in
    point_in p.zp1 (index_of first) w λ from.
    point_in p.zp2 (index_of second) w λ to.
    done_in (in_state w (along_at w.state opcode (line_vector (is_odd opcode) from to)))

-- 86, 87: the dual vector by the original points, the projection vector by where they are now
unfoldable pub dual_at : GraphicsState → Vector → Vector → GraphicsState
dual_at s dual v = with_vectors s (record { projection = v; dual = dual; freedom = s.vectors.freedom })

unfoldable pub to_dual_line_of : Fixed → ℕ → List ℤ → World → Lined
to_dual_line_of f opcode operands w =
    two operands w λ second first.
    let p = w.state.pointers in
    original_or f p.zp1 (index_of first) w (refused_in w) λ oldFrom.
    original_or f p.zp2 (index_of second) w (refused_in w) λ oldTo.
    point_in p.zp1 (index_of first) w λ from.
    point_in p.zp2 (index_of second) w λ to.
    done_in (in_state w (dual_at w.state (line_vector (is_odd opcode) oldFrom oldTo) (line_vector (is_odd opcode) from to)))

-- ---- from the stack
-- a word's low 16 bits, as signed: moved to the top, and back with the sign's bit
unfoldable pub short : ℤ → ℤ
short z = shr_z (mul32 z (pos 65536)) 65536

-- (0, 0) keeps the vector that is set
unfoldable pub from_stack : Vector → ℤ → ℤ → Vector
from_stack kept x y = cond (eq_z x (pos 0) && eq_z y (pos 0)) kept (unit_of x y)

-- 0A: the projection vector, and the dual one with it; 0B: the freedom vector
unfoldable pub stack_at : GraphicsState → ℕ → ℤ → ℤ → GraphicsState
stack_at s op x y =
    cond (eqb op 0x0A) (with_vectors s (measured_along s.vectors (from_stack s.vectors.projection x y)))
    (with_vectors s (moved_along s.vectors (from_stack s.vectors.freedom x y)))

-- 0E: the freedom vector is the projection vector
unfoldable pub followed : GraphicsState → GraphicsState
followed s = with_vectors s (moved_along s.vectors s.vectors.projection)

-- what a line does with its two operands; 6 where one is missing
abbrev pub on_two : GraphicsState → (ℤ → ℤ → Stepped) → List ℤ → Stepped
on_two s f [] = refused_with s Missing
on_two s f (_ ∷ []) = refused_with s Missing
on_two s f (a ∷ b ∷ _) = f a b

-- SPVFS and SFVFS pop y, then x
unfoldable pub vector_by : GraphicsState → ℕ → List ℤ → Stepped
vector_by s op operands = cond (eqb op 0x0E) (done_with (followed s)) (on_two s (λ (y : ℤ). λ (x : ℤ). done_with (stack_at s op (short x) (short y))) operands)

-- the same of a world, whose lists it leaves
unfoldable pub vector_of : Fixed → ℕ → List ℤ → World → Lined
vector_of f opcode operands w = into w (vector_by w.state opcode operands)

-- ---- each of them, by its opcode
unfoldable pub turn_of : Fixed → ℕ → List ℤ → World → Lined
turn_of f opcode operands w = cond (ltb opcode 0x86) (cond (ltb opcode 0x0A) (to_line_of f opcode operands w) (vector_of f opcode operands w)) (to_dual_line_of f opcode operands w)
