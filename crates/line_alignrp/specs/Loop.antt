-- ALIGNRP as its private functions say it, over the lists lent. Nobody need believe this: Alignrp.antt is what the line is held to. Assumes nothing.
use Rattle.answer.specs.declared.Refusal.{Refusal}
use Rattle.moves.specs.declared.Move.{Move}
use Rattle.std.specs.Prelude.{ℕ, List, ℤ, Result, Ok, Err}
use Rattle.int.specs.Word.{neg32}
use Rattle.graphics.specs.declared.GraphicsState.{GraphicsState}
use Rattle.graphics.specs.declared.Vector.{Vector}
use Rattle.projection.specs.Projection.{project_of}
use Rattle.line_steps.specs.Loop.{Ended, Zones, ended, zones}
use Rattle.moves.specs.Apply.{BothMoved, apply_in}
use Rattle.moves.specs.Move.{move_of}
use Rattle.line.specs.Places.{fetch_in}

-- ---- the move
abbrev pub align_to : GraphicsState → Vector → Result Vector Refusal → Result Move Refusal
align_to s point (Ok reference) = Ok (move_of s.vectors s.facts (neg32 (project_of s.vectors point reference)))
align_to s point (Err why) = Err why

-- the point is read first, then rp0 in zp0
abbrev pub align_from : GraphicsState → Result Vector Refusal → Result Vector Refusal → Result Move Refusal
align_from s reference (Ok point) = align_to s point reference
align_from s reference (Err why) = Err why

unfoldable pub aligning_of : GraphicsState → ℕ → List ℤ → List ℤ → List ℤ → List ℤ → Result Move Refusal
aligning_of s at gx gy tx ty =
    align_from s (fetch_in s.references.rp0 gx gy tx ty s.pointers.zp0) (fetch_in at gx gy tx ty s.pointers.zp1)

-- ---- the line
abbrev pub zones_left : BothMoved → Ended Zones
zones_left m = ended m.call (zones m.gx m.gy m.gflags m.tx m.ty m.tflags)

unfoldable pub align_by : GraphicsState → ℕ → Zones → Result Move Refusal → Ended Zones
align_by s at z (Ok m) =
    zones_left (apply_in m at z.glyph.xs z.glyph.ys z.glyph.flags z.twilight.xs z.twilight.ys z.twilight.flags s.pointers.zp1)
align_by s at z (Err why) = ended (Err why) z

-- rp0 is read anew for each point: it may be one of the points that were moved
abbrev pub align_at : GraphicsState → ℕ → Zones → Ended Zones
align_at s at z = align_by s at z (aligning_of s at z.glyph.xs z.glyph.ys z.twilight.xs z.twilight.ys)
