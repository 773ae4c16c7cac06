-- `feed::end` meets its contract: by whether the feed has ended, by its tests, and by whether words wait. Assumes nothing.
use mathlib.Core.Bool.{true}
use mathlib.Core.List.{[]}
use mathlib.Core.Path.{◌≡◌, ◌∙◌, refl, sym}
use borrow.Author.Rules.{rules}
use borrow.Author.Tests.{not-false, not-true}
use Rattle.line.specs.World.{Fixed, World, fixed, world}
use Rattle.rules.specs.declared.Rules.{Rules}
use Rattle.feed_carry.specs.Carry.{said_is_open}
use Rattle.feed.specs.Feed.{entered_feed}
use Rattle.feed.proofs.Entries.{end_closed, end_refused, end_unfinished, end_whole, entry_is}
use Rattle.feed.proofs.end.Goals as goal
use Rattle.feed.proofs.end.Goals.{After-enter-begun, Start}

abbrev held : Rules → Start → Fixed
held rules s = fixed rules s.args.controls.now s.args.gux.now s.args.guy.now s.args.gox.now s.args.goy.now s.args.contours.now

abbrev entry : Start → World
entry s =
    world s.args.c.state s.args.gx.now s.args.gy.now s.args.gflags.now s.args.tox.now s.args.toy.now s.args.tx.now s.args.ty.now s.args.tflags.now

is_open : (k : After-enter-begun) → said_is_open k.args.c.said ≡ true
is_open k = sym k.is_open.ensures ∙ not-false _ k.if-not-is_open.false-raw

tested :
    (rules : Rules) (k : After-enter-begun) → let a = k.args in
    let f = fixed rules a.controls.now a.gux.now a.guy.now a.gox.now a.goy.now a.contours.now in
    let w = world a.c.state a.gx.now a.gy.now a.gflags.now a.tox.now a.toy.now a.tx.now a.ty.now a.tflags.now in
    k.enter-begun.result ≡ entered_feed f a.c a.carry.now [] w
tested rules k =
    let a = k.args in
    let f = fixed rules a.controls.now a.gux.now a.guy.now a.gox.now a.goy.now a.contours.now in
    let w = world a.c.state a.gx.now a.gy.now a.gflags.now a.tox.now a.toy.now a.tx.now a.ty.now a.tflags.now in
    entry_is f a.c a.carry.now [] w k.enter-begun.ensures (k.sizes_fit-sized.ensures rules) k.has_room-room.ensures k.ends_rise-rising.ensures k.is_usable.ensures

pub returns-then-not-is_open : goal.returns-then-not-is_open
returns-then-not-is_open c = λ rules. end_closed (held rules (goal.at.returns-then-not-is_open c).Start) c.args.c c.args.carry.now (entry (goal.at.returns-then-not-is_open c).Start) (sym c.is_open.ensures ∙ not-true _ c.if-not-is_open.true-raw)

pub slice_bounds-sizes_fit-end : goal.slice_bounds-sizes_fit-end
slice_bounds-sizes_fit-end c = refl

pub returns-in-Err : goal.returns-in-Err
returns-in-Err c = λ rules. end_refused (held rules (goal.at.returns-in-Err c).Start) c.args.c c.args.carry.now (entry (goal.at.returns-in-Err c).Start) (is_open (goal.at.returns-in-Err c).After-enter-begun) (tested rules (goal.at.returns-in-Err c).After-enter-begun) c.in-Err.is c.stopped.ensures

pub returns-then-c-eq0 : goal.returns-then-c-eq0
returns-then-c-eq0 c = λ rules. end_whole (held rules (goal.at.returns-then-c-eq0 c).Start) c.args.c c.args.carry.now (entry (goal.at.returns-then-c-eq0 c).Start) (is_open (goal.at.returns-then-c-eq0 c).After-enter-begun) (tested rules (goal.at.returns-then-c-eq0 c).After-enter-begun) c.in-Ok.is c.if-c-eq0.true c.stopped-then-c-eq0.ensures

pub returns-else-c-eq0 : goal.returns-else-c-eq0
returns-else-c-eq0 c = λ rules. end_unfinished (held rules (goal.at.returns-else-c-eq0 c).Start) c.args.c c.args.carry.now (entry (goal.at.returns-else-c-eq0 c).Start) (is_open (goal.at.returns-else-c-eq0 c).After-enter-begun) (tested rules (goal.at.returns-else-c-eq0 c).After-enter-begun) c.in-Ok.is c.if-c-eq0.false c.stopped-else-c-eq0.ensures
