-- `feed_record::feed_over` meets its contract: each list that is lent is the part of the record that it was loaded from. Assumes nothing.
use mathlib.Core.Path.{refl, sym}
use native.Mathlib.Omega.{arith}
use lib.Seq.{length-take-le}
use Rattle.record_replay.proofs.Cases.{flags_front, numbers_front, same_world}
use Rattle.feed_record.specs.Fed.{no_words}
use Rattle.feed_record.proofs.Cases.{same_feed, same_held}
use Rattle.feed_record.proofs.feed_over.Goals as goal
use Rattle.feed_record.proofs.feed_over.Goals.{After-carry-1, After-gflags-3-1, After-gx-3-1, After-gy-3-1, After-tox-3-1, After-toy-3-1, After-tx-3-1, After-ty-3-1}

pub slice_bounds-numbers_in-end : goal.slice_bounds-numbers_in-end
slice_bounds-numbers_in-end c = refl

pub numbers_in-requires : goal.numbers_in-requires
numbers_in-requires c = omega (arith, c.requires.points_le_point_room)

pub slice_bounds-numbers_in-end-2 : goal.slice_bounds-numbers_in-end-2
slice_bounds-numbers_in-end-2 c = refl

pub numbers_in-requires-2 : goal.numbers_in-requires-2
numbers_in-requires-2 c = omega (arith, c.requires.points_le_point_room)

pub slice_bounds-flags_in-end : goal.slice_bounds-flags_in-end
slice_bounds-flags_in-end c = refl

pub flags_in-requires : goal.flags_in-requires
flags_in-requires c = omega (arith, c.requires.points_le_point_room)

pub slice_bounds-numbers_in-end-3 : goal.slice_bounds-numbers_in-end-3
slice_bounds-numbers_in-end-3 c = refl

pub numbers_in-requires-3 : goal.numbers_in-requires-3
numbers_in-requires-3 c = omega (arith, c.requires.twilight_le_twilight_room)

pub slice_bounds-numbers_in-end-4 : goal.slice_bounds-numbers_in-end-4
slice_bounds-numbers_in-end-4 c = refl

pub numbers_in-requires-4 : goal.numbers_in-requires-4
numbers_in-requires-4 c = omega (arith, c.requires.twilight_le_twilight_room)

pub slice_bounds-numbers_in-end-5 : goal.slice_bounds-numbers_in-end-5
slice_bounds-numbers_in-end-5 c = refl

pub numbers_in-requires-5 : goal.numbers_in-requires-5
numbers_in-requires-5 c = omega (arith, c.requires.twilight_le_twilight_room)

pub slice_bounds-numbers_in-end-6 : goal.slice_bounds-numbers_in-end-6
slice_bounds-numbers_in-end-6 c = refl

pub numbers_in-requires-6 : goal.numbers_in-requires-6
numbers_in-requires-6 c = omega (arith, c.requires.twilight_le_twilight_room)

pub slice_bounds-flags_in-end-2 : goal.slice_bounds-flags_in-end-2
slice_bounds-flags_in-end-2 c = refl

pub flags_in-requires-2 : goal.flags_in-requires-2
flags_in-requires-2 c = omega (arith, c.requires.twilight_le_twilight_room)

pub slice_bounds-numbers_in-end-7 : goal.slice_bounds-numbers_in-end-7
slice_bounds-numbers_in-end-7 c = refl

pub numbers_in-requires-7 : goal.numbers_in-requires-7
numbers_in-requires-7 c = omega (arith, c.requires.words_le_list_room)

pub slice_bounds-feed_arriving-end : goal.slice_bounds-feed_arriving-end
slice_bounds-feed_arriving-end c = refl

pub slice_bounds-feed_arriving-end-2 : goal.slice_bounds-feed_arriving-end-2
slice_bounds-feed_arriving-end-2 c = omega (arith, c.numbers_in-7.auto.list)

pub slice_bounds-feed_arriving-end-3 : goal.slice_bounds-feed_arriving-end-3
slice_bounds-feed_arriving-end-3 c = refl

pub slice_bounds-gx-end : goal.slice_bounds-gx-end
slice_bounds-gx-end c = omega (arith, c.numbers_in.auto.list, c.wide-n.ensures, c.requires.points_le_point_room)

pub slice_bounds-feed_arriving-end-4 : goal.slice_bounds-feed_arriving-end-4
slice_bounds-feed_arriving-end-4 c = sym (length-take-le _ _ (slice_bounds-gx-end (goal.at.slice_bounds-feed_arriving-end-4 c).After-carry-1))

pub slice_bounds-gy-end : goal.slice_bounds-gy-end
slice_bounds-gy-end c = omega (arith, c.numbers_in-2.auto.list, c.wide-n.ensures, c.requires.points_le_point_room)

pub slice_bounds-feed_arriving-end-5 : goal.slice_bounds-feed_arriving-end-5
slice_bounds-feed_arriving-end-5 c = sym (length-take-le _ _ (slice_bounds-gy-end (goal.at.slice_bounds-feed_arriving-end-5 c).After-gx-3-1))

pub slice_bounds-gflags-end : goal.slice_bounds-gflags-end
slice_bounds-gflags-end c = omega (arith, c.flags_in.auto.list, c.wide-n.ensures, c.requires.points_le_point_room)

pub slice_bounds-feed_arriving-end-6 : goal.slice_bounds-feed_arriving-end-6
slice_bounds-feed_arriving-end-6 c = sym (length-take-le _ _ (slice_bounds-gflags-end (goal.at.slice_bounds-feed_arriving-end-6 c).After-gy-3-1))

pub slice_bounds-tox-end : goal.slice_bounds-tox-end
slice_bounds-tox-end c = omega (arith, c.numbers_in-3.auto.list, c.wide-m.ensures, c.requires.twilight_le_twilight_room)

pub slice_bounds-feed_arriving-end-7 : goal.slice_bounds-feed_arriving-end-7
slice_bounds-feed_arriving-end-7 c = sym (length-take-le _ _ (slice_bounds-tox-end (goal.at.slice_bounds-feed_arriving-end-7 c).After-gflags-3-1))

pub slice_bounds-toy-end : goal.slice_bounds-toy-end
slice_bounds-toy-end c = omega (arith, c.numbers_in-4.auto.list, c.wide-m.ensures, c.requires.twilight_le_twilight_room)

pub slice_bounds-feed_arriving-end-8 : goal.slice_bounds-feed_arriving-end-8
slice_bounds-feed_arriving-end-8 c = sym (length-take-le _ _ (slice_bounds-toy-end (goal.at.slice_bounds-feed_arriving-end-8 c).After-tox-3-1))

pub slice_bounds-tx-end : goal.slice_bounds-tx-end
slice_bounds-tx-end c = omega (arith, c.numbers_in-5.auto.list, c.wide-m.ensures, c.requires.twilight_le_twilight_room)

pub slice_bounds-feed_arriving-end-9 : goal.slice_bounds-feed_arriving-end-9
slice_bounds-feed_arriving-end-9 c = sym (length-take-le _ _ (slice_bounds-tx-end (goal.at.slice_bounds-feed_arriving-end-9 c).After-toy-3-1))

pub slice_bounds-ty-end : goal.slice_bounds-ty-end
slice_bounds-ty-end c = omega (arith, c.numbers_in-6.auto.list, c.wide-m.ensures, c.requires.twilight_le_twilight_room)

pub slice_bounds-feed_arriving-end-10 : goal.slice_bounds-feed_arriving-end-10
slice_bounds-feed_arriving-end-10 c = sym (length-take-le _ _ (slice_bounds-ty-end (goal.at.slice_bounds-feed_arriving-end-10 c).After-tx-3-1))

pub slice_bounds-tflags-end : goal.slice_bounds-tflags-end
slice_bounds-tflags-end c = omega (arith, c.flags_in-2.auto.list, c.wide-m.ensures, c.requires.twilight_le_twilight_room)

pub slice_bounds-feed_arriving-end-11 : goal.slice_bounds-feed_arriving-end-11
slice_bounds-feed_arriving-end-11 c = sym (length-take-le _ _ (slice_bounds-tflags-end (goal.at.slice_bounds-feed_arriving-end-11 c).After-ty-3-1))

pub feed_arriving-requires : goal.feed_arriving-requires
feed_arriving-requires c =
    record { first_bound = omega (arith, c.wide-first.ensures, c.requires.words_le_list_room); block_len = refl; words_len = omega (arith, c.numbers_in-7.auto.list) }

pub returns : goal.returns
unfolding no_words
returns c e =
    let a = c.args in
    same_feed c.without_sheet.ensures
    (same_held refl (numbers_front a.bytes.now a.l 14 _ _ c.wide-first.ensures c.numbers_in-7.ensures)
    (same_world c.load_state-s.ensures
    (numbers_front a.bytes.now a.l 4 _ _ c.wide-n.ensures c.numbers_in.ensures)
    (numbers_front a.bytes.now a.l 5 _ _ c.wide-n.ensures c.numbers_in-2.ensures)
    (flags_front a.bytes.now a.l 6 _ _ c.wide-n.ensures c.flags_in.ensures)
    (numbers_front a.bytes.now a.l 8 _ _ c.wide-m.ensures c.numbers_in-3.ensures)
    (numbers_front a.bytes.now a.l 9 _ _ c.wide-m.ensures c.numbers_in-4.ensures)
    (numbers_front a.bytes.now a.l 10 _ _ c.wide-m.ensures c.numbers_in-5.ensures)
    (numbers_front a.bytes.now a.l 11 _ _ c.wide-m.ensures c.numbers_in-6.ensures)
    (flags_front a.bytes.now a.l 12 _ _ c.wide-m.ensures c.flags_in-2.ensures)))
    (c.feed_arriving.ensures e)
