-- `outline_steps::next_contour` meets its contract: by whether there is one. Assumes nothing.
use Rattle.outline_steps.specs.Outline.{glyph}
use Rattle.outline_steps.proofs.Cases.{contour_next, contour_none}
use Rattle.outline_steps.proofs.next_contour.Goals as goal

-- src/lib.rt:259:1
pub returns-then-k-contours : goal.returns-then-k-contours
returns-then-k-contours c = let a = c.args in
    contour_next (glyph a.xs.now a.ys.now a.flags.now a.contours.now) a.w c.if-k-contours.true c.number_of.ensures.value (c.start_from.ensures a.contours.now)

-- src/lib.rt:259:1
pub returns-else-k-contours : goal.returns-else-k-contours
returns-else-k-contours c = let a = c.args in
    contour_none (glyph a.xs.now a.ys.now a.flags.now a.contours.now) a.w c.if-k-contours.false
