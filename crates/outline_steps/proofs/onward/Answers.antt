-- `outline_steps::onward` meets its contract: by the point that is next. Assumes nothing.
use mathlib.Core.Path.{sym, ◌∙◌}
use Rattle.outline_steps.specs.Outline.{glyph}
use Rattle.outline_steps.proofs.Cases.{line_on, line_off, line_none}
use Rattle.outline_steps.proofs.onward.Goals as goal

-- src/lib.rt:184:1
pub returns-then-is_on : goal.returns-then-is_on
returns-then-is_on c contours = let s = c in let a = s.args in
    let t = c in let o = c in let u = c in let q = c in
    line_on (glyph a.xs.now a.ys.now a.flags.now contours) a.w t.if-at-w.true (sym o.is_on.ensures ∙ u.if-is_on.true) q.spot.ensures c.line_to.ensures c.on_to.ensures

-- src/lib.rt:184:1
pub returns-else-is_on : goal.returns-else-is_on
returns-else-is_on c contours = let s = c in let a = s.args in
    let t = c in let o = c in let u = c in
    line_off (glyph a.xs.now a.ys.now a.flags.now contours) a.w t.if-at-w.true (sym o.is_on.ensures ∙ u.if-is_on.false) (c.curve_from.ensures contours)

-- src/lib.rt:184:1
pub returns-else-at-w : goal.returns-else-at-w
returns-else-at-w c contours = let s = c in let a = s.args in
    let t = c in
    line_none (glyph a.xs.now a.ys.now a.flags.now contours) a.w t.if-at-w.false c.on_to-else-at-w.ensures
