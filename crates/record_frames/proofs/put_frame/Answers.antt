-- `record_frames::put_frame` meets its contract: the text's length, and the text behind it. Assumes nothing.
use mathlib.Core.Path.{◌≡◌, refl, sym}
use native.Mathlib.Omega.{arith}
use lib.ListN.{length, take}
use lib.Seq.{length-take-le}
use Rattle.record_frames.proofs.Pieces.{frame_put}
use Rattle.record_frames.proofs.put_frame.Goals as goal
use Rattle.record_frames.proofs.put_frame.Goals.{After-whole-1, Start}

room : (c : After-whole-1) → length c.args.text.now ≡ 24576
room c = omega arith

long : (s : Start) → s.args.size ≡ length (take s.args.size s.args.text.now)
long s = sym (length-take-le s.args.size s.args.text.now s.requires.size_in_bounds)

pub overflow_cast-size : goal.overflow_cast-size
overflow_cast-size c = omega (arith, room c, c.requires.size_in_bounds)

pub slice_bounds-append-end : goal.slice_bounds-append-end
slice_bounds-append-end c = long (goal.at.slice_bounds-append-end c).Start

pub append-requires : goal.append-requires
append-requires c =
    omega (arith, c.requires.size_in_bounds, c.requires.frame_room_in_bounds, room (goal.at.append-requires c).After-whole-1, long (goal.at.append-requires c).Start, c.put_length-next.ensures.behind, c.put_length-next.auto.out)

pub returns : goal.returns
returns c =
    record { put = frame_put (take c.args.size c.args.text.now) (omega (arith, c.requires.frame_room_in_bounds)) (long (goal.at.returns c).Start) refl c.put_length-next.ensures c.append.ensures; upper_bound = omega (arith, c.requires.size_in_bounds, room (goal.at.returns c).After-whole-1, long (goal.at.returns c).Start, c.put_length-next.ensures.behind, c.append.ensures.behind) }
