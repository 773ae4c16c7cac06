-- `line_relative::reach` meets its contract: by the point's pointer. Assumes nothing.
use Prim.Native.Nat.{ℕ}
use mathlib.Core.Path.{sym, ap, ◌∙◌}
use Rattle.line_relative.specs.Steps.{both_inside, reach_of}
use Rattle.line_relative.proofs.reach.Goals as goal

pub returns-in-Glyph : goal.returns-in-Glyph
unfolding reach_of
returns-in-Glyph c = let a = c.args in
    c.both_inside.ensures
    ∙ ap (both_inside a.at a.glyph a.reference) c.size_of-others.ensures
    ∙ sym (ap (reach_of a.at a.other a.reference a.glyph a.twilight) c.in-Glyph.is)

pub returns-in-Twilight : goal.returns-in-Twilight
unfolding reach_of
returns-in-Twilight c = let a = c.args in
    c.both_inside-in-Twilight.ensures
    ∙ ap (λ (n : ℕ). both_inside a.reference n a.at a.twilight) c.size_of-others.ensures
    ∙ sym (ap (reach_of a.at a.other a.reference a.glyph a.twilight) c.in-Twilight.is)
