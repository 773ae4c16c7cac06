-- `feed_calls::feed_call` meets its contract: a call that is taken is that of the feed, between reading and writing what is kept; on a feed that has ended nothing
-- changes, and any other is refused. Assumes nothing.
use mathlib.Core.Path.{◌∙◌, sym}
use borrow.Author.Tests.{not-false, not-true}
use lib.ListN.{drop}
use Rattle.line.specs.World.{Fixed, fixed}
use Rattle.rules.specs.declared.Rules.{Rules}
use Rattle.feed_calls.proofs.Cases.{closed, taken, unnamed, unstated}
use Rattle.feed_calls.proofs.feed_call.Goals as goal
use Rattle.feed_calls.proofs.feed_call.Goals.{Start}

-- what lines only read, by any rules
abbrev lent : Start → Rules → Fixed
lent s by = let a = s.args in fixed by a.controls.now a.gux.now a.guy.now a.gox.now a.goy.now a.contours.now

pub returns-then-not-is_open : goal.returns-then-not-is_open
returns-then-not-is_open c = let a = c.args in
    closed (lent (goal.at.returns-then-not-is_open c).Start) (drop a.at a.piece.now) a.state.now a.numbers.now a.carry.now a.gx.now a.gy.now a.gflags.now a.tox.now a.toy.now a.tx.now a.ty.now a.tflags.now _ _ (sym c.is_open.ensures ∙ not-true _ c.if-not-is_open.true-raw) c.said_before.ensures

pub returns-then-not-is_state : goal.returns-then-not-is_state
returns-then-not-is_state c = let a = c.args in
    unstated (lent (goal.at.returns-then-not-is_state c).Start) (drop a.at a.piece.now) a.state.now a.numbers.now a.carry.now a.gx.now a.gy.now a.gflags.now a.tox.now a.toy.now a.tx.now a.ty.now a.tflags.now _ _ (sym c.is_open.ensures ∙ not-false _ c.if-not-is_open.false-raw) _ _
    (sym c.by_number-named.ensures ∙ c.in-Some.is) (sym c.is_state.ensures ∙ not-true _ c.if-not-is_state.true-raw) c.refuse_feed-then-not-is_state.ensures.value c.refuse_feed-then-not-is_state.ensures.numbers_after

pub returns-in-None : goal.returns-in-None
returns-in-None c = let a = c.args in
    unnamed (lent (goal.at.returns-in-None c).Start) (drop a.at a.piece.now) a.state.now a.numbers.now a.carry.now a.gx.now a.gy.now a.gflags.now a.tox.now a.toy.now a.tx.now a.ty.now a.tflags.now _ _ (sym c.is_open.ensures ∙ not-false _ c.if-not-is_open.false-raw) _
    (sym c.by_number-named.ensures ∙ c.in-None.is) c.refuse_feed.ensures.value c.refuse_feed.ensures.numbers_after

pub returns-else-not-is_state : goal.returns-else-not-is_state
returns-else-not-is_state c = let a = c.args in
    taken (lent (goal.at.returns-else-not-is_state c).Start) (drop a.at a.piece.now) a.state.now a.numbers.now a.carry.now a.gx.now a.gy.now a.gflags.now a.tox.now a.toy.now a.tx.now a.ty.now a.tflags.now _ _ (sym c.is_open.ensures ∙ not-false _ c.if-not-is_open.false-raw) c.say_fed.new.numbers
    _ c.read_state-s.result c.fed_of-c.result c.feed-fed.result c.write_state.new.words _ _ _ _ _ _ _ _ _
    (sym c.by_number-named.ensures ∙ c.in-Some.is) (sym c.is_state.ensures ∙ not-false _ c.if-not-is_state.false-raw) c.read_state-s.ensures c.fed_of-c.ensures c.feed-fed.ensures
    c.say_fed.ensures.value c.write_state.ensures c.say_fed.ensures.numbers_after
