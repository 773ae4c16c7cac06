-- `feed_record::feed_whole` meets its contract: each list that is lent is the part of the record that it was loaded from. Assumes nothing.
use mathlib.Core.Path.{refl, sym}
use native.Mathlib.Omega.{arith}
use lib.Seq.{length-take-le}
use Rattle.record_replay.proofs.Cases.{ends_front, numbers_front, same_fixed}
use Rattle.feed_record.proofs.Cases.{same_feed, same_held}
use Rattle.feed_record.proofs.feed_whole.Goals as goal
use Rattle.feed_record.proofs.feed_whole.Goals.{After-contours-2-1, After-controls-3-1, After-gox-3-1, After-goy-3-1, After-gux-3-1, After-guy-3-1}

pub slice_bounds-numbers_in-end : goal.slice_bounds-numbers_in-end
slice_bounds-numbers_in-end c = refl

pub numbers_in-requires : goal.numbers_in-requires
numbers_in-requires c = omega (arith, c.requires.controls_le_list_room)

pub slice_bounds-numbers_in-end-2 : goal.slice_bounds-numbers_in-end-2
slice_bounds-numbers_in-end-2 c = refl

pub numbers_in-requires-2 : goal.numbers_in-requires-2
numbers_in-requires-2 c = omega (arith, c.requires.points_le_point_room)

pub slice_bounds-numbers_in-end-3 : goal.slice_bounds-numbers_in-end-3
slice_bounds-numbers_in-end-3 c = refl

pub numbers_in-requires-3 : goal.numbers_in-requires-3
numbers_in-requires-3 c = omega (arith, c.requires.points_le_point_room)

pub slice_bounds-numbers_in-end-4 : goal.slice_bounds-numbers_in-end-4
slice_bounds-numbers_in-end-4 c = refl

pub numbers_in-requires-4 : goal.numbers_in-requires-4
numbers_in-requires-4 c = omega (arith, c.requires.points_le_point_room)

pub slice_bounds-numbers_in-end-5 : goal.slice_bounds-numbers_in-end-5
slice_bounds-numbers_in-end-5 c = refl

pub numbers_in-requires-5 : goal.numbers_in-requires-5
numbers_in-requires-5 c = omega (arith, c.requires.points_le_point_room)

pub slice_bounds-ends_in-end : goal.slice_bounds-ends_in-end
slice_bounds-ends_in-end c = refl

pub ends_in-requires : goal.ends_in-requires
ends_in-requires c = omega (arith, c.requires.contours_le_list_room)

pub slice_bounds-controls-end : goal.slice_bounds-controls-end
slice_bounds-controls-end c = omega (arith, c.numbers_in.auto.list, c.wide-values.ensures, c.requires.controls_le_list_room)

pub slice_bounds-feed_over-end : goal.slice_bounds-feed_over-end
slice_bounds-feed_over-end c = sym (length-take-le _ _ (slice_bounds-controls-end (goal.at.slice_bounds-feed_over-end c).After-contours-2-1))

pub slice_bounds-gux-end : goal.slice_bounds-gux-end
slice_bounds-gux-end c = omega (arith, c.numbers_in-2.auto.list, c.wide-n.ensures, c.requires.points_le_point_room)

pub slice_bounds-feed_over-end-2 : goal.slice_bounds-feed_over-end-2
slice_bounds-feed_over-end-2 c = sym (length-take-le _ _ (slice_bounds-gux-end (goal.at.slice_bounds-feed_over-end-2 c).After-controls-3-1))

pub slice_bounds-guy-end : goal.slice_bounds-guy-end
slice_bounds-guy-end c = omega (arith, c.numbers_in-3.auto.list, c.wide-n.ensures, c.requires.points_le_point_room)

pub slice_bounds-feed_over-end-3 : goal.slice_bounds-feed_over-end-3
slice_bounds-feed_over-end-3 c = sym (length-take-le _ _ (slice_bounds-guy-end (goal.at.slice_bounds-feed_over-end-3 c).After-gux-3-1))

pub slice_bounds-gox-end : goal.slice_bounds-gox-end
slice_bounds-gox-end c = omega (arith, c.numbers_in-4.auto.list, c.wide-n.ensures, c.requires.points_le_point_room)

pub slice_bounds-feed_over-end-4 : goal.slice_bounds-feed_over-end-4
slice_bounds-feed_over-end-4 c = sym (length-take-le _ _ (slice_bounds-gox-end (goal.at.slice_bounds-feed_over-end-4 c).After-guy-3-1))

pub slice_bounds-goy-end : goal.slice_bounds-goy-end
slice_bounds-goy-end c = omega (arith, c.numbers_in-5.auto.list, c.wide-n.ensures, c.requires.points_le_point_room)

pub slice_bounds-feed_over-end-5 : goal.slice_bounds-feed_over-end-5
slice_bounds-feed_over-end-5 c = sym (length-take-le _ _ (slice_bounds-goy-end (goal.at.slice_bounds-feed_over-end-5 c).After-gox-3-1))

pub slice_bounds-contours-end : goal.slice_bounds-contours-end
slice_bounds-contours-end c = omega (arith, c.ends_in.auto.list, c.wide-ends.ensures, c.requires.contours_le_list_room)

pub slice_bounds-feed_over-end-6 : goal.slice_bounds-feed_over-end-6
slice_bounds-feed_over-end-6 c = sym (length-take-le _ _ (slice_bounds-contours-end (goal.at.slice_bounds-feed_over-end-6 c).After-goy-3-1))

pub feed_over-requires : goal.feed_over-requires
feed_over-requires c = record { points_le_point_room = c.requires.points_le_point_room; twilight_le_twilight_room = c.requires.twilight_le_twilight_room; words_le_list_room = c.requires.words_le_list_room }

pub returns : goal.returns
returns c e =
    let a = c.args in
    same_feed refl
    (same_held
    (same_fixed
    (numbers_front a.bytes.now a.l 13 _ _ c.wide-values.ensures c.numbers_in.ensures)
    (numbers_front a.bytes.now a.l 0 _ _ c.wide-n.ensures c.numbers_in-2.ensures)
    (numbers_front a.bytes.now a.l 1 _ _ c.wide-n.ensures c.numbers_in-3.ensures)
    (numbers_front a.bytes.now a.l 2 _ _ c.wide-n.ensures c.numbers_in-4.ensures)
    (numbers_front a.bytes.now a.l 3 _ _ c.wide-n.ensures c.numbers_in-5.ensures)
    (ends_front a.bytes.now a.l 7 _ _ c.wide-ends.ensures c.ends_in.ensures))
    refl refl)
    (c.feed_over.ensures e)
