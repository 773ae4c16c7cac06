-- `line_distance::flipped` meets its contract: by whether the two lie on one side of 0. Assumes nothing.
use mir.Facts.{to_z-of_z}
use Rattle.int.proofs.Words.{back32}
use Rattle.line_distance.proofs.Seen.{flipped_over, left_there}
use Rattle.line_distance.proofs.flipped.Goals as goal

pub returns-then-auto_flip-non_negative : goal.returns-then-auto_flip-non_negative
returns-then-auto_flip-non_negative c =
    flipped_over c.args.auto_flip c.args.original c.args.control (to_z-of_z c.ranges.original) (to_z-of_z c.ranges.control) c.non_negative.ensures c.non_negative-2.ensures c.if-auto_flip-non_negative.true
    (back32 c.wrapping_neg.result c.wrapping_neg.type_inv) c.wrapping_neg.ensures

pub returns-else-auto_flip-non_negative : goal.returns-else-auto_flip-non_negative
returns-else-auto_flip-non_negative c =
    left_there c.args.auto_flip c.args.original c.args.control (to_z-of_z c.ranges.original) (to_z-of_z c.ranges.control) c.non_negative.ensures c.non_negative-2.ensures c.if-auto_flip-non_negative.false
