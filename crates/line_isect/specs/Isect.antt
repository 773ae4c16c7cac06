-- ISECT[] (0x0F): puts a point of zp2 where line a of zp1 meets line b of zp0, and touches it on both axes; neither the freedom vector nor backward compatibility holds it
-- back. Pops b1, b0, a1, a0, the point. OpenType's ISECT, and FreeType 2.13.3, ttinterp.c (Ins_ISECT); the arithmetic is `crossing_of`. Refusals: a missing
-- operand; then a0, a1, b0, b1, the point, in the Rust's order and pedantic or not, where FreeType skips the line. Assumes nothing.
use Rattle.std.specs.Prelude.{ℕ, List, ℤ, set}
use Rattle.graphics.specs.declared.Vector.{Vector}
use Rattle.graphics.specs.declared.ZonePointer.TheVariants.{Glyph, Twilight}
use Rattle.graphics.specs.declared.ZonePointer.{ZonePointer}
use Rattle.int.specs.Word.{index_of}
use Rattle.crossing.specs.Crossing.{crossing_of}
use Rattle.line_steps.specs.Steps.{done_in, five, point_in, refused_in, there_or}
use Rattle.flags.specs.Flag.{touch_bits}
use Rattle.flags.specs.declared.CoordAxis.TheVariants.{Both}
use Rattle.line.specs.World.{Fixed, Lined, World, world}
use Rattle.zone.specs.Zone.{or_at}

-- a point put somewhere, and touched on both axes
unfoldable pub put_touched : ℕ → Vector → World → ZonePointer → World
put_touched at place w Glyph =
    world w.state (set w.gx at place.x) (set w.gy at place.y) (or_at w.gflags at (touch_bits Both)) w.tox w.toy w.tx w.ty
    w.tflags
put_touched at place w Twilight =
    world w.state w.gx w.gy w.gflags w.tox w.toy (set w.tx at place.x) (set w.ty at place.y)
    (or_at w.tflags at (touch_bits Both))

unfoldable pub isect_of : Fixed → ℕ → List ℤ → World → Lined
isect_of f opcode operands w =
    five operands w λ b1 b0 a1 a0 point.
    let p = w.state.pointers in
    point_in p.zp1 (index_of a0) w λ aFrom.
    point_in p.zp1 (index_of a1) w λ aTo.
    point_in p.zp0 (index_of b0) w λ bFrom.
    point_in p.zp0 (index_of b1) w λ bTo.
    there_or p.zp2 (index_of point) w (refused_in w)
    (done_in (put_touched (index_of point) (crossing_of aFrom aTo bFrom bTo) w p.zp2))
