-- `outline_steps::walk_on` meets its contract: by the stage. Assumes nothing.
use Rattle.std.specs.Prelude.{Some}
use mathlib.Core.Path.{sym, ap, ◌∙◌}
use Rattle.outline_steps.specs.Outline.{glyph}
use Rattle.outline_steps.specs.Pen.{walk_by}
use Rattle.outline_steps.proofs.walk_on.Goals as goal

-- src/lib.rt:270:1
pub returns-in-Between : goal.returns-in-Between
returns-in-Between c = let s = c in let a = s.args in
    c.next_contour.ensures ∙ sym (ap (walk_by (glyph a.xs.now a.ys.now a.flags.now a.contours.now) a.w) c.in-Between.is)

-- src/lib.rt:270:1
pub returns-in-Onward : goal.returns-in-Onward
returns-in-Onward c = let s = c in let a = s.args in
    ap Some (c.onward.ensures a.contours.now) ∙ sym (ap (walk_by (glyph a.xs.now a.ys.now a.flags.now a.contours.now) a.w) c.in-Onward.is)

-- src/lib.rt:270:1
pub returns-in-Waiting : goal.returns-in-Waiting
returns-in-Waiting c = let s = c in let a = s.args in
    ap Some (c.curve_from.ensures a.contours.now) ∙ sym (ap (walk_by (glyph a.xs.now a.ys.now a.flags.now a.contours.now) a.w) c.in-Waiting.is)
