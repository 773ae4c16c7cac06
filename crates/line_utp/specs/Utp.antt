-- UTP[] (0x29): takes the touch marks off a point of zp0, on each axis that the freedom vector has a part in. Pops the point. OpenType's UTP, and
-- FreeType 2.13.3, ttinterp.c (Ins_UTP). Refusals: a missing operand; then the point outside, pedantic or not, where FreeType lets it pass unless it
-- is pedantic. The Rust decides that a freedom vector of (0, 0) looks at no point; Ins_UTP looks, and clears nothing. Assumes nothing.
use Rattle.std.specs.Prelude.{ℕ, Bool, false, true, List, ℤ, Ok}
use Rattle.flags.specs.declared.CoordAxis.TheVariants.{Both, X, Y}
use Rattle.graphics.specs.declared.ZonePointer.TheVariants.{Glyph, Twilight}
use Rattle.graphics.specs.declared.ZonePointer.{ZonePointer}
use Rattle.int.specs.Word.{index_of}
use Rattle.line.specs.World.{Fixed, Lined, World, world}
use Rattle.line_steps.specs.Steps.{flags_in, one}
use Rattle.moves.specs.Move.{is_not0}
use Rattle.zone.specs.Zone.{Marked, marked, untouch_of}

-- the marks of x and of y taken off; of neither, no point is looked at
unfoldable pub untouched_by : List ℕ → ℕ → Bool → Bool → Marked
untouched_by flags at true true = untouch_of flags at Both
untouched_by flags at true false = untouch_of flags at X
untouched_by flags at false true = untouch_of flags at Y
untouched_by flags at false false = marked (Ok tt) flags

-- what a call over the twilight zone's flags said and left
abbrev pub twilight_flags_in : World → Marked → Lined
twilight_flags_in w m = record { call = m.call; world = world w.state w.gx w.gy w.gflags w.tox w.toy w.tx w.ty m.flags }

-- in the zone that a pointer names
unfoldable pub untouch_in : ℕ → Bool → Bool → World → ZonePointer → Lined
untouch_in at x y w Glyph = flags_in w (untouched_by w.gflags at x y)
untouch_in at x y w Twilight = twilight_flags_in w (untouched_by w.tflags at x y)

unfoldable pub utp_of : Fixed → ℕ → List ℤ → World → Lined
utp_of f opcode operands w =
    one operands w λ point.
    let s = w.state in
    let freedom = s.vectors.freedom in
    untouch_in (index_of point) (is_not0 freedom.x) (is_not0 freedom.y) w s.pointers.zp0
