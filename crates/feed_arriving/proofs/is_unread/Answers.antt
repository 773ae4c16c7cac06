-- `feed_arriving::is_unread` meets its contract. Assumes nothing.
use mathlib.Core.Bool.{true≢false}
use Rattle.feed_arriving.proofs.is_unread.Goals as goal

pub returns-then-next : goal.returns-then-next
returns-then-next c e = absurd (true≢false e)

pub returns : goal.returns
returns c e = c.if-next.false
