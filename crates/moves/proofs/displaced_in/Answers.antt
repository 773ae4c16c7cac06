-- `moves::displaced_in` meets its contract: by the reference's pointer. Assumes nothing.
use mathlib.Core.Path.{sym, ap, ◌∙◌}
use Rattle.moves.specs.Displacement.{displaced_in}
use Rattle.moves.proofs.displaced_in.Goals as goal

pub returns-in-Glyph : goal.returns-in-Glyph
unfolding displaced_in
returns-in-Glyph c = let e = c in let a = e.args in
    c.displaced_at.ensures
    ∙ sym (ap (displaced_in a.v a.p a.gox.now a.goy.now a.gx.now a.gy.now a.tox.now a.toy.now a.tx.now a.ty.now) e.in-Glyph.is)

pub returns-in-Twilight : goal.returns-in-Twilight
unfolding displaced_in
returns-in-Twilight c = let e = c in let a = e.args in
    c.displaced_at-in-Twilight.ensures
    ∙ sym (ap (displaced_in a.v a.p a.gox.now a.goy.now a.gx.now a.gy.now a.tox.now a.toy.now a.tx.now a.ty.now) e.in-Twilight.is)
