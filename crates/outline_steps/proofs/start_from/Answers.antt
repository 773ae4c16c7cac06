-- `outline_steps::start_from` meets its contract: by the points that are on curve. Assumes nothing.
use mathlib.Core.Path.{sym, ◌∙◌}
use Rattle.outline_steps.specs.Outline.{glyph}
use Rattle.outline_steps.proofs.Cases.{start_single, start_first, start_last, start_midway}
use Rattle.outline_steps.proofs.start_from.Goals as goal

-- src/lib.rt:235:1
pub returns-then-last-first : goal.returns-then-last-first
returns-then-last-first c contours = let a = c.args in
    c.begun_at.ensures a.flags.now contours ∙ start_single (glyph a.xs.now a.ys.now a.flags.now contours) a.w a.last c.if-last-first.true

-- src/lib.rt:235:1
pub returns-then-is_on : goal.returns-then-is_on
returns-then-is_on c contours = let a = c.args in
    c.begun_at-then-is_on.ensures a.flags.now contours ∙ start_first (glyph a.xs.now a.ys.now a.flags.now contours) a.w a.last c.if-last-first.false (sym c.is_on.ensures ∙ c.if-is_on.true)

-- src/lib.rt:235:1
pub returns-then-is_on-2 : goal.returns-then-is_on-2
returns-then-is_on-2 c contours = let a = c.args in
    c.begun_at-then-is_on-2.ensures a.flags.now contours ∙ start_last (glyph a.xs.now a.ys.now a.flags.now contours) a.w a.last c.if-last-first.false (sym c.is_on.ensures ∙ c.if-is_on.false) (sym c.is_on-else-is_on.ensures ∙ c.if-is_on-2.true)

-- src/lib.rt:235:1
pub returns-else-is_on-2 : goal.returns-else-is_on-2
returns-else-is_on-2 c contours = let a = c.args in
    c.begun_at-else-is_on-2.ensures a.flags.now contours ∙ start_midway (glyph a.xs.now a.ys.now a.flags.now contours) a.w a.last c.if-last-first.false (sym c.is_on.ensures ∙ c.if-is_on.false) (sym c.is_on-else-is_on.ensures ∙ c.if-is_on-2.false)
