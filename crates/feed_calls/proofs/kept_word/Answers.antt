-- `feed_calls::kept_word` meets its contract. Assumes nothing.
use Rattle.feed_calls.proofs.Feeds.{outside}
use Rattle.feed_calls.proofs.kept_word.Goals as goal

pub returns-else-k-numbers : goal.returns-else-k-numbers
returns-else-k-numbers c = outside c.args.numbers.now c.args.k c.if-k-numbers.false
