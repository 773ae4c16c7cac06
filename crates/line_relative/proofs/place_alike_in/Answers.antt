-- `line_relative::place_alike_in` meets its contract: by the pointer. Assumes nothing.
use mathlib.Core.Path.{sym, ap, ◌∙◌}
use Rattle.line.specs.Places.{place_in}
use Rattle.line_relative.proofs.place_alike_in.Goals as goal

pub returns-in-Glyph : goal.returns-in-Glyph
unfolding place_in
returns-in-Glyph c = c.place_alike.ensures ∙ sym (ap (place_in c.args.at c.args.gx.now c.args.gy.now c.args.tx.now c.args.ty.now) c.in-Glyph.is)

pub returns-in-Twilight : goal.returns-in-Twilight
unfolding place_in
returns-in-Twilight c = c.place_alike-in-Twilight.ensures ∙ sym (ap (place_in c.args.at c.args.gx.now c.args.gy.now c.args.tx.now c.args.ty.now) c.in-Twilight.is)
