-- IP as its private functions say it, over the lists lent. Nobody need believe this: Ip.antt is what the line is held to. Assumes nothing.
use Rattle.std.specs.Prelude.{ℕ, Bool, cond, List, ℤ, ⊤, Result, Ok, Err}
use Rattle.answer.specs.declared.Refusal.{Refusal}
use Rattle.graphics.specs.declared.Facts.{Facts}
use Rattle.graphics.specs.declared.GraphicsState.{GraphicsState}
use Rattle.graphics.specs.declared.Vector.{Vector}
use Rattle.graphics.specs.declared.Vectors.{Vectors}
use Rattle.graphics.specs.declared.ZonePointer.{ZonePointer}
use Rattle.line.specs.Places.{fetch_in}
use Rattle.line_steps.specs.Loop.{Ended, Zones, each, ended, zones}
use Rattle.moves.specs.Apply.{BothMoved, apply_in}
use Rattle.moves.specs.Move.{move_of}
use Rattle.line_ip.specs.Ip.{distance_left, stretch_of}
use Rattle.line_ip.specs.declared.Stretch.{Stretch}

-- ---- a point
unfoldable pub let_pass : Bool → Refusal → Result ⊤ Refusal
let_pass pedantic why = cond pedantic (Err why) (Ok tt)

abbrev pub zones_after : BothMoved → Ended Zones
zones_after m = ended m.call (zones m.gx m.gy m.gflags m.tx m.ty m.tflags)

abbrev pub place_at : Zones → ZonePointer → ℕ → Result Vector Refusal
place_at z zone at = fetch_in at z.glyph.xs z.glyph.ys z.twilight.xs z.twilight.ys zone

unfoldable pub interpolate_by : Vectors → Facts → ZonePointer → (ℕ → Vector) → Stretch → ℕ → Zones → Result Vector Refusal → Ended Zones
interpolate_by v facts zone outline t at z (Ok place) =
    zones_after (apply_in (move_of v facts (distance_left v t (outline at) place)) at z.glyph.xs z.glyph.ys z.glyph.flags z.twilight.xs z.twilight.ys z.twilight.flags zone)
interpolate_by v facts zone outline t at z (Err why) = ended (let_pass facts.pedantic why) z

abbrev pub interpolate_at : Vectors → Facts → ZonePointer → (ℕ → Vector) → Stretch → ℕ → Zones → Ended Zones
interpolate_at v facts zone outline t at z = interpolate_by v facts zone outline t at z (place_at z zone at)

-- ---- the line
unfoldable pub interpolate_from : GraphicsState → (ZonePointer → ℕ → Vector) → List ℤ → Zones → Result Vector Refusal → Result Vector Refusal → Ended Zones
interpolate_from s outline operands z (Err why) far = ended (let_pass s.facts.pedantic why) z
interpolate_from s outline operands z (Ok current) (Err why) = ended (let_pass s.facts.pedantic why) z
interpolate_from s outline operands z (Ok current) (Ok farCurrent) =
    each
    (interpolate_at s.vectors s.facts s.pointers.zp2 (outline s.pointers.zp2)
    (stretch_of s.vectors (outline s.pointers.zp0 s.references.rp1) (outline s.pointers.zp1 s.references.rp2) current farCurrent))
    s.loop_counter operands z

abbrev pub interpolate_all : GraphicsState → (ZonePointer → ℕ → Vector) → List ℤ → Zones → Ended Zones
interpolate_all s outline operands z =
    interpolate_from s outline operands z (place_at z s.pointers.zp0 s.references.rp1) (place_at z s.pointers.zp1 s.references.rp2)
