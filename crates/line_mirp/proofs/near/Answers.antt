-- `line_mirp::near` meets its contract: by whether the cut_in is looked at. Assumes nothing.
use mir.Facts.{to_z-of_z}
use Rattle.int.proofs.Words.{back32}
use Rattle.line_mirp.proofs.Cases.{near_chosen, near_left}
use Rattle.line_mirp.proofs.near.Goals as goal

pub returns-then-looks : goal.returns-then-looks
returns-then-looks c = let a = c.args in
    near_chosen a.native a.cut_in a.control a.original (to_z-of_z c.ranges.control) c.if-looks.true (to_z-of_z c.ranges.cut_in)
    c.cut_in_of.ensures
    (back32 c.cut_in_of.result c.cut_in_of.type_inv)
    (to_z-of_z c.ranges.original)
    c.chosen.ensures
    (back32 c.chosen.result c.chosen.type_inv)

pub returns-else-looks : goal.returns-else-looks
returns-else-looks c = let a = c.args in
    near_left a.native a.cut_in a.control a.original (to_z-of_z c.ranges.control) c.if-looks.false
