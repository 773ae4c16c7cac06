-- `projection::freedom_axis_by` meets its contract: by the test of fdotp. Assumes nothing.
use mir.Facts.{to_z-of_z}
use Rattle.graphics.specs.State.{unit}
use Rattle.projection.proofs.Seen.{axis_at_one, axis_elsewhere, seen}
use Rattle.projection.proofs.freedom_axis_by.Goals as goal

pub returns-then-equal : goal.returns-then-equal
returns-then-equal c = let i = c in let s = i in axis_at_one s.args.f s.args.raw (seen unit (to_z-of_z s.ranges.raw) i.equal.ensures i.if-equal.true) c.axis_of.ensures

pub returns-else-equal : goal.returns-else-equal
returns-else-equal c = let s = c in axis_elsewhere s.args.f s.args.raw (seen unit (to_z-of_z s.ranges.raw) c.equal.ensures c.if-equal.false)
