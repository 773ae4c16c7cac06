-- `replay::enter` meets its contract: by the first test that fails. Assumes nothing.
use borrow.Author.Tests.{not-false, not-true}
use Rattle.replay.specs.Run.{entry_of}
use Rattle.replay.proofs.enter.Goals as goal

pub returns-then-not-sized : goal.returns-then-not-sized
unfolding entry_of
returns-then-not-sized c = rw (not-true c.args.sized c.if-not-sized.true-raw)

pub returns-then-not-rising : goal.returns-then-not-rising
unfolding entry_of
returns-then-not-rising c = let a = c.args in rw (not-false a.sized c.if-not-sized.false-raw, not-true a.rising c.if-not-rising.true-raw)

pub returns-then-not-usable : goal.returns-then-not-usable
unfolding entry_of
returns-then-not-usable c = let a = c.args in rw (not-false a.sized c.if-not-sized.false-raw, not-false a.rising c.if-not-rising.false-raw, not-true a.usable c.if-not-usable.true-raw)

pub returns-then-not-starts : goal.returns-then-not-starts
unfolding entry_of
returns-then-not-starts c = let a = c.args in
    rw (not-false a.sized c.if-not-sized.false-raw, not-false a.rising c.if-not-rising.false-raw, not-false a.usable c.if-not-usable.false-raw, not-true a.starts c.if-not-starts.true-raw)

pub returns-else-not-starts : goal.returns-else-not-starts
unfolding entry_of
returns-else-not-starts c = let a = c.args in
    rw (not-false a.sized c.if-not-sized.false-raw, not-false a.rising c.if-not-rising.false-raw, not-false a.usable c.if-not-usable.false-raw, not-false a.starts c.if-not-starts.false-raw)
