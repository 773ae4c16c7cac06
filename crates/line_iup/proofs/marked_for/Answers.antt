-- `line_iup::marked_for` meets its contract: by backward compatibility, and by whether the opcode is odd. Assumes nothing.
use Rattle.line_iup.proofs.Cases.{marked_x_lem, marked_y_lem, not_marked}
use Rattle.line_iup.proofs.marked_for.Goals as goal

pub returns-then-is_odd : goal.returns-then-is_odd
returns-then-is_odd c = let a = c.args in
    marked_x_lem a.s a.opcode c.if-facts.true c.is_odd.ensures c.if-is_odd.true c.with_did_iup_x.ensures

pub returns-else-is_odd : goal.returns-else-is_odd
returns-else-is_odd c = let a = c.args in
    marked_y_lem a.s a.opcode c.if-facts.true c.is_odd.ensures c.if-is_odd.false c.with_did_iup_y.ensures

pub returns-else-facts : goal.returns-else-facts
returns-else-facts c = let a = c.args in
    not_marked a.s a.opcode c.if-facts.false
