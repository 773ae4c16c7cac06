-- `line_ip::stretched` meets its contract: by the two tests. Assumes nothing.
use mathlib.Core.Path.{◌∙◌}
use mir.Facts.{to_z-of_z}
use Rattle.int.proofs.Words.{back32}
use Rattle.line_ip.proofs.Cases.{in_ratio, kept_as_was, none_stretched}
use Rattle.line_ip.proofs.stretched.Goals as goal

pub returns-then-equal : goal.returns-then-equal
returns-then-equal c = let a = c.args in
    none_stretched a.was a.is a.d (to_z-of_z c.ranges.was) (to_z-of_z c.ranges.is) (to_z-of_z c.ranges.d) c.equal.ensures c.if-equal.true

pub returns-then-equal-2 : goal.returns-then-equal-2
returns-then-equal-2 c = let a = c.args in
    kept_as_was a.was a.is a.d (to_z-of_z c.ranges.was) (to_z-of_z c.ranges.is) (to_z-of_z c.ranges.d) c.equal.ensures c.equal-else-equal.ensures c.if-equal.false c.if-equal-2.true

pub returns-else-equal-2 : goal.returns-else-equal-2
returns-else-equal-2 c = let a = c.args in
    in_ratio a.was a.is a.d (to_z-of_z c.ranges.was) (to_z-of_z c.ranges.is) (to_z-of_z c.ranges.d) c.equal.ensures c.equal-else-equal.ensures c.if-equal.false c.if-equal-2.false
    (back32 c.mul_div.result c.mul_div.type_inv ∙ c.mul_div.ensures)
