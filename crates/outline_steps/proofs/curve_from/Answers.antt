-- `outline_steps::curve_from` meets its contract: by the point that is next. Assumes nothing.
use mathlib.Core.Path.{sym, ◌∙◌}
use Rattle.outline_steps.specs.Outline.{glyph}
use Rattle.outline_steps.proofs.Cases.{curve_on, curve_off, curve_back}
use Rattle.outline_steps.proofs.curve_from.Goals as goal

-- src/lib.rt:159:1
pub returns-then-is_on : goal.returns-then-is_on
returns-then-is_on c contours = let s = c in let a = s.args in
    let p = c in let t = c in let o = c in let u = c in let q = c in
    curve_on (glyph a.xs.now a.ys.now a.flags.now contours) a.w a.c a.at p.spot-control.ensures c.curve_to.ensures t.if-at-w.true (sym o.is_on.ensures ∙ u.if-is_on.true) q.spot.ensures c.on_to.ensures

-- src/lib.rt:159:1
pub returns-else-is_on : goal.returns-else-is_on
returns-else-is_on c contours = let s = c in let a = s.args in
    let p = c in let t = c in let o = c in let u = c in let q = c in
    curve_off (glyph a.xs.now a.ys.now a.flags.now contours) a.w a.c a.at p.spot-control.ensures c.curve_to-else-is_on.ensures t.if-at-w.true (sym o.is_on.ensures ∙ u.if-is_on.false) q.spot-else-is_on.ensures c.on_to-else-is_on.ensures

-- src/lib.rt:159:1
pub returns-else-at-w : goal.returns-else-at-w
returns-else-at-w c contours = let s = c in let a = s.args in
    let p = c in let t = c in let q = c in
    curve_back (glyph a.xs.now a.ys.now a.flags.now contours) a.w a.c a.at p.spot-control.ensures c.curve_to-else-at-w.ensures t.if-at-w.false q.spot-else-at-w.ensures c.on_to-else-at-w.ensures
