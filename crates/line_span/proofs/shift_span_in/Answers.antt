-- `line_span::shift_span_in` meets its contract: by the pointer. Assumes nothing.
use mathlib.Core.Path.{ap, sym, ◌∙◌}
use Rattle.line_steps.specs.Loop.{Zones, glyph_left, in_zone, twilight_left, zones}
use Rattle.line_span.specs.Steps.{shift_span}
use Rattle.line_span.proofs.shift_span_in.Goals as goal
use Rattle.line_span.proofs.shift_span_in.Goals.{Start}

-- the lists as they are lent
abbrev entry : Start → Zones
entry b = let a = b.args in zones a.gx.now a.gy.now a.gflags.now a.tx.now a.ty.now a.tflags.now

pub shift_span-requires : goal.shift_span-requires
shift_span-requires c = let p = c.requires in (p.0, p.1)

pub shift_span-requires-in-Twilight : goal.shift_span-requires-in-Twilight
shift_span-requires-in-Twilight c = let p = c.requires in (p.2, p.3)

pub returns-in-Glyph : goal.returns-in-Glyph
unfolding in_zone
returns-in-Glyph c = let a = c.args in
    ap (glyph_left (entry (goal.at.returns-in-Glyph c).Start).twilight) c.shift_span.ensures ∙ sym (ap (in_zone (shift_span a.m a.keeps a.kept a.start a.end) (entry (goal.at.returns-in-Glyph c).Start)) c.in-Glyph.is)

pub returns-in-Twilight : goal.returns-in-Twilight
unfolding in_zone
returns-in-Twilight c = let a = c.args in
    ap (twilight_left (entry (goal.at.returns-in-Twilight c).Start).glyph) c.shift_span-in-Twilight.ensures ∙ sym (ap (in_zone (shift_span a.m a.keeps a.kept a.start a.end) (entry (goal.at.returns-in-Twilight c).Start)) c.in-Twilight.is)
