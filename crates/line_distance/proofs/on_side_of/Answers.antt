-- `line_distance::on_side_of` meets its contract: by the distance's sign. Assumes nothing.
use mir.Facts.{to_z-of_z}
use Rattle.int.proofs.Words.{back32}
use Rattle.line_distance.proofs.Seen.{other_side, this_side}
use Rattle.line_distance.proofs.on_side_of.Goals as goal

pub returns-then-non_negative : goal.returns-then-non_negative
returns-then-non_negative c =
    this_side c.args.d c.args.width (to_z-of_z c.ranges.d) (to_z-of_z c.ranges.width) c.non_negative.ensures c.if-non_negative.true

pub returns-else-non_negative : goal.returns-else-non_negative
returns-else-non_negative c =
    other_side c.args.d c.args.width (to_z-of_z c.ranges.d) (to_z-of_z c.ranges.width) c.non_negative.ensures c.if-non_negative.false (back32 c.wrapping_neg.result c.wrapping_neg.type_inv) c.wrapping_neg.ensures
