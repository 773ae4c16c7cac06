-- `moves::apply_coords_in` meets its contract: by the pointer. Assumes nothing.
use mathlib.Core.Path.{sym, ap, ◌∙◌}
use Rattle.moves.specs.Apply.{shifted_glyph, shifted_twilight, shift_in}
use Rattle.moves.proofs.apply_coords_in.Goals as goal

pub returns-in-Glyph : goal.returns-in-Glyph
unfolding shift_in
returns-in-Glyph c = let t = c in let e = t in let a = e.args in
    ap (shifted_glyph a.tx.now a.ty.now) t.apply_coords.ensures
    ∙ sym (ap (shift_in a.m a.at a.gx.now a.gy.now a.tx.now a.ty.now) e.in-Glyph.is)

pub returns-in-Twilight : goal.returns-in-Twilight
unfolding shift_in
returns-in-Twilight c = let t = c in let e = t in let a = e.args in
    ap (shifted_twilight a.gx.now a.gy.now) t.apply_coords-in-Twilight.ensures
    ∙ sym (ap (shift_in a.m a.at a.gx.now a.gy.now a.tx.now a.ty.now) e.in-Twilight.is)
