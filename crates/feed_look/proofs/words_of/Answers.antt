-- `feed_look::words_of` meets its contract. Assumes nothing.
use mathlib.Core.Path.{ap, sym}
use Rattle.feed_look.specs.Steps.{whole_by}
use Rattle.feed_look.proofs.words_of.Goals as goal

pub returns-in-Whole : goal.returns-in-Whole
unfolding whole_by
returns-in-Whole c = sym (ap whole_by c.in-Whole.is)

pub returns-in-Waits : goal.returns-in-Waits
unfolding whole_by
returns-in-Waits c = sym (ap whole_by c.in-Waits.is)

pub returns-in-Bad : goal.returns-in-Bad
unfolding whole_by
returns-in-Bad c = sym (ap whole_by c.in-Bad.is)

pub returns-in-Long : goal.returns-in-Long
unfolding whole_by
returns-in-Long c = sym (ap whole_by c.in-Long.is)
