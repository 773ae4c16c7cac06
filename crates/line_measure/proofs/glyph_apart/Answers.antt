-- `line_measure::glyph_apart` meets its contract: by whether the state is pedantic, or both points are inside. Assumes nothing.
use mathlib.Core.Path.{◌∙◌}
use mir.Facts.{to_z-of_z}
use Rattle.int.proofs.Words.{back32}
use Rattle.line_measure.proofs.Cases.{glyph_measured, glyph_outside}
use Rattle.line_measure.proofs.glyph_apart.Goals as goal

pub returns-then-pedantic-is_inside : goal.returns-then-pedantic-is_inside
returns-then-pedantic-is_inside c = let a = c.args in
    glyph_measured a.pedantic a.v a.scale a.a a.b a.gux.now a.guy.now
    c.is_inside.ensures
    c.is_inside-2.ensures
    c.if-pedantic-is_inside.true
    (to_z-of_z c.ranges.scale)
    (back32 c.unscaled_apart.result c.unscaled_apart.type_inv ∙ c.unscaled_apart.ensures)

pub returns-else-pedantic-is_inside : goal.returns-else-pedantic-is_inside
returns-else-pedantic-is_inside c = let a = c.args in
    glyph_outside a.pedantic a.v a.scale a.a a.b a.gux.now a.guy.now
    c.is_inside.ensures
    c.is_inside-2.ensures
    c.if-pedantic-is_inside.false
