-- `line_shift::shift_in` meets its contract: by the pointer. Assumes nothing.
use mathlib.Core.Path.{sym, ap, ◌∙◌}
use Rattle.line_steps.specs.Loop.{each, glyph_left, in_zone, points, shift_unless_idle, twilight_left, zones}
use Rattle.line_shift.proofs.shift_in.Goals as goal

pub returns-in-Glyph : goal.returns-in-Glyph
unfolding in_zone
returns-in-Glyph c = let a = c.args in
    ap (glyph_left (points a.tx.now a.ty.now a.tflags.now)) c.shift_points.ensures
    ∙ sym (ap (in_zone (each (shift_unless_idle a.m) a.count a.operands.now) (zones a.gx.now a.gy.now a.gflags.now a.tx.now a.ty.now a.tflags.now)) c.in-Glyph.is)

pub returns-in-Twilight : goal.returns-in-Twilight
unfolding in_zone
returns-in-Twilight c = let a = c.args in
    ap (twilight_left (points a.gx.now a.gy.now a.gflags.now)) c.shift_points-in-Twilight.ensures
    ∙ sym (ap (in_zone (each (shift_unless_idle a.m) a.count a.operands.now) (zones a.gx.now a.gy.now a.gflags.now a.tx.now a.ty.now a.tflags.now)) c.in-Twilight.is)
