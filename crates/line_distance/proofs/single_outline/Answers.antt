-- `line_distance::single_outline` meets its contract: by the three tests. Assumes nothing.
use mir.Facts.{to_z-of_z}
use Rattle.int.proofs.Words.{back32}
use Rattle.line_distance.proofs.Seen.{outline_far, outline_near}
use Rattle.line_distance.proofs.single_outline.Goals as goal

pub returns-then-less-below : goal.returns-then-less-below
returns-then-less-below c =
    outline_near c.args.d c.args.width (to_z-of_z c.ranges.d) (to_z-of_z c.ranges.width) c.args.cut_in (to_z-of_z c.ranges.cut_in)
    (back32 c.wrapping_add.result c.wrapping_add.type_inv) c.wrapping_add.ensures c.less-below.ensures
    (back32 c.wrapping_sub.result c.wrapping_sub.type_inv) c.wrapping_sub.ensures c.less-above.ensures
    c.less.ensures c.if-less-below.true
    (back32 c.on_side_of.result c.on_side_of.type_inv) c.on_side_of.ensures

pub returns-else-less-below : goal.returns-else-less-below
returns-else-less-below c =
    outline_far c.args.d c.args.width (to_z-of_z c.ranges.d) (to_z-of_z c.ranges.width) c.args.cut_in (to_z-of_z c.ranges.cut_in)
    (back32 c.wrapping_add.result c.wrapping_add.type_inv) c.wrapping_add.ensures c.less-below.ensures
    (back32 c.wrapping_sub.result c.wrapping_sub.type_inv) c.wrapping_sub.ensures c.less-above.ensures
    c.less.ensures c.if-less-below.false
