-- `moves::apply_in` meets its contract: by the pointer. Assumes nothing.
use mathlib.Core.Path.{sym, ap, ◌∙◌}
use Rattle.moves.specs.Apply.{moved_glyph, moved_twilight, apply_in}
use Rattle.moves.proofs.apply_in.Goals as goal

pub returns-in-Glyph : goal.returns-in-Glyph
unfolding apply_in
returns-in-Glyph c = let t = c in let e = t in let a = e.args in
    ap (moved_glyph a.tx.now a.ty.now a.tflags.now) t.apply.ensures
    ∙ sym (ap (apply_in a.m a.at a.gx.now a.gy.now a.gflags.now a.tx.now a.ty.now a.tflags.now) e.in-Glyph.is)

pub returns-in-Twilight : goal.returns-in-Twilight
unfolding apply_in
returns-in-Twilight c = let t = c in let e = t in let a = e.args in
    ap (moved_twilight a.gx.now a.gy.now a.gflags.now) t.apply-in-Twilight.ensures
    ∙ sym (ap (apply_in a.m a.at a.gx.now a.gy.now a.gflags.now a.tx.now a.ty.now a.tflags.now) e.in-Twilight.is)
