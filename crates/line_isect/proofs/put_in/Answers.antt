-- `line_isect::put_in` meets its contract: by the pointer. Assumes nothing.
use mathlib.Core.Path.{sym, ap, ◌∙◌}
use Rattle.moves.specs.Apply.{moved_glyph, moved_twilight}
use Rattle.line_isect.specs.Steps.{put_in}
use Rattle.line_isect.proofs.put_in.Goals as goal

pub returns-in-Glyph : goal.returns-in-Glyph
unfolding put_in
returns-in-Glyph c = let a = c.args in
    ap (moved_glyph a.tx.now a.ty.now a.tflags.now) c.put_touched.ensures
    ∙ sym (ap (put_in a.place a.at a.gx.now a.gy.now a.gflags.now a.tx.now a.ty.now a.tflags.now) c.in-Glyph.is)

pub returns-in-Twilight : goal.returns-in-Twilight
unfolding put_in
returns-in-Twilight c = let a = c.args in
    ap (moved_twilight a.gx.now a.gy.now a.gflags.now) c.put_touched-in-Twilight.ensures
    ∙ sym (ap (put_in a.place a.at a.gx.now a.gy.now a.gflags.now a.tx.now a.ty.now a.tflags.now) c.in-Twilight.is)
