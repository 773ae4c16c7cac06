-- `line_mirp::control_found` meets its contract: by whether there is a number, and then whether it is inside. Assumes nothing.
use lib.IntN.{pos}
use lib.ListN.{get_or}
use Prim.Native.Nat.{◌-◌}
use Rattle.int.proofs.Words.{back32}
use Rattle.line_mirp.proofs.Cases.{control_none, control_there, control_zero}
use Rattle.line_mirp.proofs.control_found.Goals as goal

pub returns-then-next-eq0 : goal.returns-then-next-eq0
returns-then-next-eq0 c = let a = c.args in control_zero a.controls.now a.next c.if-next-eq0.true

pub returns-then-controls-i : goal.returns-then-controls-i
returns-then-controls-i c = let a = c.args in
    control_none a.controls.now a.next c.if-next-eq0.false c.if-controls-i.true

pub returns : goal.returns
returns c = let a = c.args in
    control_there a.controls.now a.next c.if-next-eq0.false c.if-controls-i.false (back32 (get_or a.controls.now (a.next - 1) (pos 0)) c.value-1.given)
