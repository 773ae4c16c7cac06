-- `feed_carry::join` meets its contract. Assumes nothing.
use mathlib.Core.Path.{sym}
use Prim.Native.Nat.{◌-◌}
use native.Mathlib.Omega.{arith}
use lib.ListN.{take}
use lib.Seq.{length-take-le}
use Rattle.feed_carry.proofs.Joins.{joined, joined_front, part_front, whole_front}
use Rattle.feed_carry.proofs.join.Goals as goal

pub slice_bounds-append-end : goal.slice_bounds-append-end
slice_bounds-append-end c = sym (length-take-le c.args.held c.args.carry.now c.requires.held_in_bounds)

pub append-kept-requires : goal.append-kept-requires
append-kept-requires c = omega (arith, c.requires.held_le_most_line, c.requires.line_len, length-take-le c.args.held c.args.carry.now c.requires.held_in_bounds)

pub append-requires : goal.append-requires
append-requires c = let a = c.args in let p = take a.held a.carry.now in let e = length-take-le a.held a.carry.now c.requires.held_in_bounds in
    omega (arith, c.if-words-room.true, c.append-kept.ensures.behind, e, c.requires.held_le_most_line, c.requires.line_len, c.append-kept.auto.kept)

pub slice_bounds-append-end-else-words-room : goal.slice_bounds-append-end-else-words-room
slice_bounds-append-end-else-words-room c = sym (length-take-le (4098 - c.args.held) c.args.words.now c.if-words-room.false)

pub append-requires-else-words-room : goal.append-requires-else-words-room
append-requires-else-words-room c = let a = c.args in let p = take a.held a.carry.now in let e = length-take-le a.held a.carry.now c.requires.held_in_bounds in
    omega (arith, length-take-le (4098 - a.held) a.words.now c.if-words-room.false, c.append-kept.ensures.behind, e, c.requires.held_le_most_line, c.requires.line_len, c.append-kept.auto.kept)

pub returns-then-words-room : goal.returns-then-words-room
returns-then-words-room c = let a = c.args in let p = take a.held a.carry.now in let e = length-take-le a.held a.carry.now c.requires.held_in_bounds in
    joined_front _ (joined p a.words.now c.append-kept.ensures c.append.ensures) (whole_front a.held p a.words.now e c.requires.held_le_most_line c.if-words-room.true)

pub returns-else-words-room : goal.returns-else-words-room
returns-else-words-room c = let a = c.args in let p = take a.held a.carry.now in let e = length-take-le a.held a.carry.now c.requires.held_in_bounds in
    joined_front _ (joined p (take (4098 - a.held) a.words.now) c.append-kept.ensures c.append-else-words-room.ensures) (part_front a.held p a.words.now e c.requires.held_le_most_line)
