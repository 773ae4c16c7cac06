-- `line_distance::single_control` meets its contract: by the test against the cut_in. Assumes nothing.
use mir.Facts.{to_z-of_z}
use Rattle.int.proofs.Words.{back32}
use Rattle.line_distance.proofs.Seen.{control_far, control_near}
use Rattle.line_distance.proofs.single_control.Goals as goal

pub returns-then-less : goal.returns-then-less
returns-then-less c =
    control_near c.args.d c.args.width (to_z-of_z c.ranges.d) (to_z-of_z c.ranges.width) c.args.cut_in (to_z-of_z c.ranges.cut_in)
    (back32 c.wrapping_sub.result c.wrapping_sub.type_inv) c.wrapping_sub.ensures
    (back32 c.wrapping_abs.result c.wrapping_abs.type_inv) c.wrapping_abs.ensures
    c.less.ensures c.if-less.true
    (back32 c.on_side_of.result c.on_side_of.type_inv) c.on_side_of.ensures

pub returns-else-less : goal.returns-else-less
returns-else-less c =
    control_far c.args.d c.args.width (to_z-of_z c.ranges.d) (to_z-of_z c.ranges.width) c.args.cut_in (to_z-of_z c.ranges.cut_in)
    (back32 c.wrapping_sub.result c.wrapping_sub.type_inv) c.wrapping_sub.ensures
    (back32 c.wrapping_abs.result c.wrapping_abs.type_inv) c.wrapping_abs.ensures
    c.less.ensures c.if-less.false
