-- `line_utp::untouch_in` meets its contract: by the pointer. Assumes nothing.
use mathlib.Core.Path.{ap, sym, ◌∙◌}
use Rattle.line_utp.specs.Steps.{marked_glyph, marked_twilight, untouched_in}
use Rattle.line_utp.proofs.untouch_in.Goals as goal

pub returns-in-Glyph : goal.returns-in-Glyph
unfolding untouched_in
returns-in-Glyph c = let a = c.args in
    ap (marked_glyph a.tflags.now) c.untouch_by.ensures
    ∙ sym (ap (untouched_in a.at a.x a.y a.gflags.now a.tflags.now) c.in-Glyph.is)

pub returns-in-Twilight : goal.returns-in-Twilight
unfolding untouched_in
returns-in-Twilight c = let a = c.args in
    ap (marked_twilight a.gflags.now) c.untouch_by-in-Twilight.ensures
    ∙ sym (ap (untouched_in a.at a.x a.y a.gflags.now a.tflags.now) c.in-Twilight.is)
