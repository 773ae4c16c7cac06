-- `line::put_one` meets its contract: by the test of the index; outside, `set` leaves the list as it is. Assumes nothing.
use mathlib.Core.Path.{sym}
use lib.Seq.{set_out}
use Rattle.line.proofs.put_one.Goals as goal

pub returns-then-list-i : goal.returns-then-list-i
returns-then-list-i c = let s = c in
    sym (set_out s.args.list.now s.args.at s.args.z c.if-list-i.true)
