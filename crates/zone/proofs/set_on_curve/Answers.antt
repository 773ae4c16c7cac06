-- `zone::set_on_curve` meets its contract: by the tests of the range; the part comes back as `put_on_curve` ensures. Assumes nothing.
use mathlib.Core.List.{map}
use Rattle.zone.proofs.Cases.{placed, range_in, range_reversed, range_out}
use Rattle.zone.specs.Zone.{on_curve}
use Rattle.zone.proofs.set_on_curve.Goals as goal

pub returns-then-e-a : goal.returns-then-e-a
returns-then-e-a c = let a = c.args in range_reversed a.flags.now a.start a.end a.on c.if-e-a.true

pub returns-then-flags-e : goal.returns-then-flags-e
returns-then-flags-e c = let a = c.args in range_out a.flags.now a.start a.end a.on c.if-e-a.false c.if-flags-e.true

pub returns : goal.returns
returns c = let p = c in let i = p in let a = i.args in
    range_in a.flags.now a.start a.end a.on i.if-e-a.false i.if-flags-e.false
    (placed (map (on_curve a.on)) a.start a.end a.flags.now i.if-e-a.false p.put_on_curve.ensures)
