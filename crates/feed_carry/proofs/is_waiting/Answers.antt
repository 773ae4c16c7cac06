-- `feed_carry::is_waiting` meets its contract. Assumes nothing.
use mathlib.Core.Path.{ap, sym}
use Rattle.feed_carry.specs.Carry.{waits}
use Rattle.feed_carry.proofs.is_waiting.Goals as goal

pub returns-in-Waits : goal.returns-in-Waits
unfolding waits
returns-in-Waits c = sym (ap waits c.in-Waits.is)

pub returns-in-Bad : goal.returns-in-Bad
unfolding waits
returns-in-Bad c = sym (ap waits c.in-Bad.is)

pub returns-in-Long : goal.returns-in-Long
unfolding waits
returns-in-Long c = sym (ap waits c.in-Long.is)

pub returns-in-Whole : goal.returns-in-Whole
unfolding waits
returns-in-Whole c = sym (ap waits c.in-Whole.is)
