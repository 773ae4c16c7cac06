-- `feed_calls::feed_end_call` meets its contract, whatever the rules: a call that is taken is the end of the feed; on a feed that has ended nothing changes, and any
-- other is refused. Assumes nothing.
use mathlib.Core.Path.{◌∙◌, sym}
use borrow.Author.Tests.{not-false, not-true}
use Rattle.graphics.specs.declared.GraphicsState.{GraphicsState}
use Rattle.line.specs.World.{Fixed, World, fixed, world}
use Rattle.rules.specs.declared.Rules.{Rules}
use Rattle.feed.specs.Feed.{left as leaves}
use Rattle.feed_calls.proofs.Cases.{end_closed, end_taken, end_unstated}
use Rattle.feed_calls.proofs.feed_end_call.Goals as goal
use Rattle.feed_calls.proofs.feed_end_call.Goals.{Start}

-- what lines only read, by any rules
abbrev lent : Start → Rules → Fixed
lent s by = let a = s.args in fixed by a.controls.now a.gux.now a.guy.now a.gox.now a.goy.now a.contours.now

-- and the lists, with any state
abbrev over : Start → GraphicsState → World
over s t = let a = s.args in world t a.gx.now a.gy.now a.gflags.now a.tox.now a.toy.now a.tx.now a.ty.now a.tflags.now

pub returns-then-not-is_open : goal.returns-then-not-is_open
returns-then-not-is_open c by = let a = c.args in
    end_closed (lent (goal.at.returns-then-not-is_open c).Start by) a.state.now a.numbers.now a.carry.now (over (goal.at.returns-then-not-is_open c).Start) _ (sym c.is_open.ensures ∙ not-true _ c.if-not-is_open.true-raw) c.said_before.ensures

pub returns-then-not-is_state : goal.returns-then-not-is_state
returns-then-not-is_state c by = let a = c.args in
    end_unstated (lent (goal.at.returns-then-not-is_state c).Start by) a.state.now a.numbers.now a.carry.now (over (goal.at.returns-then-not-is_state c).Start) _ (sym c.is_open.ensures ∙ not-false _ c.if-not-is_open.false-raw) _ (sym c.is_state.ensures ∙ not-true _ c.if-not-is_state.true-raw) c.refuse_feed.ensures.value c.refuse_feed.ensures.numbers_after

pub returns : goal.returns
returns c by = let a = c.args in
    end_taken (lent (goal.at.returns c).Start by) a.state.now a.numbers.now a.carry.now (over (goal.at.returns c).Start) _ (sym c.is_open.ensures ∙ not-false _ c.if-not-is_open.false-raw) c.say_fed.new.numbers
    c.read_state-s.result c.fed_of-c.result (leaves c.end-fed.result a.carry.now a.gx.now a.gy.now a.gflags.now a.tox.now a.toy.now a.tx.now a.ty.now a.tflags.now)
    (sym c.is_state.ensures ∙ not-false _ c.if-not-is_state.false-raw) c.read_state-s.ensures c.fed_of-c.ensures (c.end-fed.ensures by) c.say_fed.ensures.value c.say_fed.ensures.numbers_after
