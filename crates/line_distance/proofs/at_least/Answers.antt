-- `line_distance::at_least` meets its contract: by the sign of the outline's distance. Assumes nothing.
use mir.Facts.{to_z-of_z}
use Rattle.int.proofs.Words.{back32}
use Rattle.line_distance.proofs.Seen.{least_above, least_below}
use Rattle.line_distance.proofs.at_least.Goals as goal

pub returns-then-non_negative : goal.returns-then-non_negative
returns-then-non_negative c =
    least_above c.args.minimum c.args.original c.args.d (to_z-of_z c.ranges.minimum) (to_z-of_z c.ranges.original) (to_z-of_z c.ranges.d) c.non_negative.ensures c.if-non_negative.true
    (back32 c.max.result c.max.type_inv) c.max.ensures

pub returns-else-non_negative : goal.returns-else-non_negative
returns-else-non_negative c =
    least_below c.args.minimum c.args.original c.args.d (to_z-of_z c.ranges.minimum) (to_z-of_z c.ranges.original) (to_z-of_z c.ranges.d) c.non_negative.ensures c.if-non_negative.false
    (back32 c.wrapping_neg.result c.wrapping_neg.type_inv) c.wrapping_neg.ensures
    (back32 c.min.result c.min.type_inv) c.min.ensures
