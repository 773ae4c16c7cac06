-- `feed_calls::write_feed` meets its contract: five words written one after the other are all of them. Assumes nothing.
use lib.ListN.{length-set}
use native.Mathlib.Omega.{arith}
use Rattle.feed_calls.proofs.Feeds.{five_set, no_feed_set}
use Rattle.feed_calls.proofs.write_feed.Goals as goal

pub bounds-numbers-4 : goal.bounds-numbers-4
bounds-numbers-4 c = simp length-set (omega (arith, c.if-numbers-eq-FEED_WORDS.true))

pub returns-then-numbers-eq-FEED_WORDS : goal.returns-then-numbers-eq-FEED_WORDS
returns-then-numbers-eq-FEED_WORDS c = let a = c.args in five_set a.numbers.now a.number a.place a.lines a.detail a.held c.if-numbers-eq-FEED_WORDS.true

pub returns-else-numbers-eq-FEED_WORDS : goal.returns-else-numbers-eq-FEED_WORDS
returns-else-numbers-eq-FEED_WORDS c = let a = c.args in no_feed_set a.numbers.now a.number a.place a.lines a.detail a.held c.if-numbers-eq-FEED_WORDS.false
