-- `feed::feed` meets its contract: by whether the feed has ended, by its tests, and then as `take_in` does. Assumes nothing.
use mathlib.Core.Bool.{true}
use mathlib.Core.List.{List}
use mathlib.Core.Path.{◌≡◌, ◌∙◌, ap, sym}
use Prim.Native.Nat.{◌-◌}
use native.Mathlib.Omega.{arith}
use borrow.Author.Tests.{not-false, not-true}
use lib.IntN.{ℤ}
use lib.ListN.{drop, length, take}
use Rattle.line.specs.World.{Fixed, World, fixed, world}
use Rattle.feed_carry.specs.Carry.{said_is_open}
use Rattle.feed.specs.Feed.{entered_feed, feed_of}
use Rattle.feed.proofs.Entries.{entered_by, entry_is, feed_closed, feed_entered, feed_refused, words_from}
use Rattle.feed.proofs.feed.Goals as goal
use Rattle.feed.proofs.feed.Goals.{After-enter-begun, Start}

abbrev held : Start → Fixed
held s = fixed s.args.rules s.args.controls.now s.args.gux.now s.args.guy.now s.args.gox.now s.args.goy.now s.args.contours.now

abbrev entry : Start → World
entry s =
    world s.args.c.state s.args.gx.now s.args.gy.now s.args.gflags.now s.args.tox.now s.args.toy.now s.args.tx.now s.args.ty.now s.args.tflags.now

is_open : (k : After-enter-begun) → said_is_open k.args.c.said ≡ true
is_open k = sym k.is_open.ensures ∙ not-false _ k.if-not-is_open.false-raw

-- the words, as a part of the piece
abbrev part : After-enter-begun → List ℤ
part k = let w = k.args.piece.now in take (length w - k.place_in-start.result) (drop k.place_in-start.result w)

part_is : (k : After-enter-begun) → part k ≡ drop k.args.at k.args.piece.now
part_is k = let k = k in words_from k.args.piece.now k.args.at k.place_in-start.result k.place_in-start.ensures

tested : (k : After-enter-begun) → let held : (Fixed) = (fixed k.args.rules k.args.controls.now k.args.gux.now k.args.guy.now k.args.gox.now k.args.goy.now k.args.contours.now) in
    let entry : (World) = (world k.args.c.state k.args.gx.now k.args.gy.now k.args.gflags.now k.args.tox.now k.args.toy.now k.args.tx.now k.args.ty.now k.args.tflags.now) in
    k.enter-begun.result ≡ entered_feed held k.args.c k.args.carry.now (part k) entry
tested k =
    let held : (Fixed) = (fixed k.args.rules k.args.controls.now k.args.gux.now k.args.guy.now k.args.gox.now k.args.goy.now k.args.contours.now) in
    let entry : (World) = (world k.args.c.state k.args.gx.now k.args.gy.now k.args.gflags.now k.args.tox.now k.args.toy.now k.args.tx.now k.args.ty.now k.args.tflags.now) in
    let k = k in
    entry_is held k.args.c k.args.carry.now (part k) entry k.enter-begun.ensures (k.sizes_fit-sized.ensures k.args.rules) k.has_room-room.ensures k.ends_rise-rising.ensures k.is_usable.ensures

pub returns-then-not-is_open : goal.returns-then-not-is_open
returns-then-not-is_open c = feed_closed (held (goal.at.returns-then-not-is_open c).Start) c.args.c c.args.carry.now (entry (goal.at.returns-then-not-is_open c).Start) (drop c.args.at c.args.piece.now) (sym c.is_open.ensures ∙ not-true _ c.if-not-is_open.true-raw)

pub offset_bounds-piece-start : goal.offset_bounds-piece-start
offset_bounds-piece-start c = omega (arith, c.place_in-start.ensures.0, c.well_formed.1.1.1.0.1)

pub slice_bounds-words-count : goal.slice_bounds-words-count
slice_bounds-words-count c = omega (arith, c.place_in-start.ensures.0, c.well_formed.1.1.1.0.1)

pub slice_bounds-words-start : goal.slice_bounds-words-start
slice_bounds-words-start c = omega (arith, c.place_in-start.ensures.0, c.well_formed.1.1.1.0.1)

pub slice_bounds-words-end : goal.slice_bounds-words-end
slice_bounds-words-end c = omega (arith, c.place_in-start.ensures.0, c.well_formed.1.1.1.0.1)

pub take_in-requires : goal.take_in-requires
take_in-requires c = let e = entered_by (held (goal.at.take_in-requires c).Start) c.args.c c.args.carry.now (part (goal.at.take_in-requires c).After-enter-begun) (entry (goal.at.take_in-requires c).Start) (tested (goal.at.take_in-requires c).After-enter-begun) c.in-Ok.is in record { sound = e.0; carry_value = e.1 }

pub returns-in-Err : goal.returns-in-Err
returns-in-Err c = feed_refused (held (goal.at.returns-in-Err c).Start) c.args.c c.args.carry.now (entry (goal.at.returns-in-Err c).Start) (is_open (goal.at.returns-in-Err c).After-enter-begun) (part (goal.at.returns-in-Err c).After-enter-begun) (tested (goal.at.returns-in-Err c).After-enter-begun) c.in-Err.is c.stopped.ensures
    ∙ ap (λ (l : List ℤ). feed_of (held (goal.at.returns-in-Err c).Start) c.args.c c.args.carry.now l (entry (goal.at.returns-in-Err c).Start)) (part_is (goal.at.returns-in-Err c).After-enter-begun)

pub returns-in-Ok : goal.returns-in-Ok
returns-in-Ok c = c.take_in.ensures
    ∙ feed_entered (held (goal.at.returns-in-Ok c).Start) c.args.c c.args.carry.now (entry (goal.at.returns-in-Ok c).Start) (is_open (goal.at.returns-in-Ok c).After-enter-begun) (part (goal.at.returns-in-Ok c).After-enter-begun) (tested (goal.at.returns-in-Ok c).After-enter-begun) c.in-Ok.is
    ∙ ap (λ (l : List ℤ). feed_of (held (goal.at.returns-in-Ok c).Start) c.args.c c.args.carry.now l (entry (goal.at.returns-in-Ok c).Start)) (part_is (goal.at.returns-in-Ok c).After-enter-begun)
