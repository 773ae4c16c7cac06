-- `outline_steps::begin` meets its contract: test by test. Assumes nothing.
use mathlib.Core.Path.{sym, ◌∙◌}
use mathlib.Core.Bool.{◌&&◌}
use borrow.Author.Tests.{not-false, not-true}
use Rattle.outline_steps.specs.Outline.{glyph}
use Rattle.outline_steps.proofs.Cases.{begun_sizes, begun_ends, begun_ready, begun_far}
use Rattle.outline_steps.proofs.begin.Goals as goal

-- src/lib.rt:363:9
pub returns-then-not-sizes_fit : goal.returns-then-not-sizes_fit
returns-then-not-sizes_fit c = let a = c.args in
    begun_sizes (glyph a.xs.now a.ys.now a.flags.now a.contours.now) (sym c.sizes_fit.ensures ∙ not-true _ c.if-not-sizes_fit.true-raw)

-- src/lib.rt:366:9
pub returns-then-not-ends_rise : goal.returns-then-not-ends_rise
returns-then-not-ends_rise c = let a = c.args in
    begun_ends (glyph a.xs.now a.ys.now a.flags.now a.contours.now) (sym c.sizes_fit.ensures ∙ not-false _ c.if-not-sizes_fit.false-raw) (sym c.ends_rise.ensures ∙ not-true _ c.if-not-ends_rise.true-raw)

-- src/lib.rt:359:1
pub returns-then-all_close : goal.returns-then-all_close
returns-then-all_close c = let a = c.args in
    begun_ready (glyph a.xs.now a.ys.now a.flags.now a.contours.now) c.fresh.ensures (sym c.sizes_fit.ensures ∙ not-false _ c.if-not-sizes_fit.false-raw) (sym c.ends_rise.ensures ∙ not-false _ c.if-not-ends_rise.false-raw) (sym (λ i. c.all_close.ensures i && c.all_close-2.ensures i) ∙ c.if-all_close.true)

-- src/lib.rt:359:1
pub returns-else-all_close : goal.returns-else-all_close
returns-else-all_close c = let a = c.args in
    begun_far (glyph a.xs.now a.ys.now a.flags.now a.contours.now) (sym c.sizes_fit.ensures ∙ not-false _ c.if-not-sizes_fit.false-raw) (sym c.ends_rise.ensures ∙ not-false _ c.if-not-ends_rise.false-raw) (sym (λ i. c.all_close.ensures i && c.all_close-2.ensures i) ∙ c.if-all_close.false)
