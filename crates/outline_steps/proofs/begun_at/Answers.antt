-- `outline_steps::begun_at` meets its contract: the step is a move to the start. Assumes nothing.
use Rattle.outline_steps.specs.Outline.{glyph}
use Rattle.outline_steps.proofs.Cases.{begun_here}
use Rattle.outline_steps.proofs.begun_at.Goals as goal

-- src/lib.rt:206:1
pub returns : goal.returns
returns c flags contours =
    begun_here (glyph c.args.xs.now c.args.ys.now flags contours) c.args.w c.args.last c.args.from c.args.to c.args.at c.args.stop c.spot.ensures c.move_to.ensures
