-- `feed_calls::said_before` meets its contract. Assumes nothing.
use mathlib.Core.Path.{◌∙◌}
use native.Mathlib.Omega.{arith}
use Rattle.feed_calls.proofs.Feeds.{never_said, no_feed, once_said}
use Rattle.feed_calls.proofs.said_before.Goals as goal

pub returns-then-numbers-ne-FEED_WORDS : goal.returns-then-numbers-ne-FEED_WORDS
returns-then-numbers-ne-FEED_WORDS c = no_feed c.args.numbers.now c.if-numbers-ne-FEED_WORDS.true

pub returns-then-number-gt-LAST : goal.returns-then-number-gt-LAST
returns-then-number-gt-LAST c = never_said c.args.numbers.now c.if-numbers-ne-FEED_WORDS.false (omega (arith, c.if-number-gt-LAST.true, c.kept_word-number.ensures))

pub overflow_cast-result : goal.overflow_cast-result
overflow_cast-result c = omega (arith, c.if-number-gt-LAST.false)

pub returns : goal.returns
returns c = c.kept_word-number.ensures ∙ once_said c.args.numbers.now c.if-numbers-ne-FEED_WORDS.false (omega (arith, c.if-number-gt-LAST.false, c.kept_word-number.ensures))
