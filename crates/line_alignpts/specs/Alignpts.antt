-- ALIGNPTS[] (0x27): brings a point of zp0 and one of zp1 into line, half way each. Pops zp0's point, then zp1's. OpenType's ALIGNPTS, and FreeType
-- 2.13.3, ttinterp.c (Ins_ALIGNPTS), on words that wrap. Refusals: a missing operand; then zp0's point, then zp1's, in the Rust's order and pedantic
-- or not, where FreeType skips the line unless it is pedantic. Assumes nothing.
use Rattle.std.specs.Prelude.{ℕ, List, ℤ, pos}
use Rattle.graphics.specs.declared.Vector.{Vector}
use Rattle.graphics.specs.declared.Vectors.{Vectors}
use Rattle.int.specs.Word.{index_of, neg32, quot32}
use Rattle.line.specs.World.{Fixed, Lined, World}
use Rattle.line_steps.specs.Steps.{done_in, move_in, point_in, two}
use Rattle.projection.specs.Projection.{project_of}

-- half of how far one place lies from another, along the projection vector: toward 0
abbrev pub half_of : Vectors → Vector → Vector → ℤ
half_of v there here = quot32 (project_of v there here) (pos 2)

-- zp1's point moved by half the distance, then zp0's back by as much
unfoldable pub both_moved_by : ℤ → ℕ → ℕ → World → Lined
both_moved_by half first second w =
    move_in w.state.pointers.zp1 half second w λ moved.
    move_in w.state.pointers.zp0 (neg32 half) first moved done_in

unfoldable pub alignpts_of : Fixed → ℕ → List ℤ → World → Lined
alignpts_of f opcode operands w =
    two operands w λ first second.
    let s = w.state in
    point_in s.pointers.zp0 (index_of first) w λ there.
    point_in s.pointers.zp1 (index_of second) w λ here.
    both_moved_by (half_of s.vectors there here) (index_of first) (index_of second) w
