-- `feed_carry::first` meets its contract. Assumes nothing.
use mathlib.Core.Path.{◌∙◌, sym}
use mathlib.Core.List.{◌++◌}
use native.Mathlib.Omega.{arith}
use lib.ListN.{take}
use lib.Seq.{length-take-le}
use Rattle.feed_look.specs.Look.{look_of}
use Rattle.feed_look.proofs.Looks.{few}
use Rattle.feed_carry.proofs.Firsts.{first_none, first_room, first_run, first_settled}
use Rattle.feed_carry.proofs.Joins.{as_waits, joined_fits}
use Rattle.feed_carry.proofs.first.Goals as goal

pub returns-then-c-eq0 : goal.returns-then-c-eq0
returns-then-c-eq0 c = let a = c.args in first_none a.c a.words.now a.carry.now a.line.now c.if-c-eq0.true

pub join-joined-requires : goal.join-joined-requires
join-joined-requires c = let a = c.args in let p = take a.c.held a.carry.now in let n = few p (as_waits (look_of p) ∙ c.requires.carry_value) in record { held_in_bounds = c.requires.held_in_bounds; held_le_most_line = omega (arith, n, length-take-le a.c.held a.carry.now c.requires.held_in_bounds); line_len = c.requires.line_len }

pub slice_bounds-look-end : goal.slice_bounds-look-end
slice_bounds-look-end c = omega (arith, joined_fits (take c.args.c.held c.args.carry.now ++ c.args.words.now) c.join-joined.result c.join-joined.ensures.1, c.requires.line_len, c.join-joined.auto.line)

pub slice_bounds-look-end-2 : goal.slice_bounds-look-end-2
slice_bounds-look-end-2 c = sym (length-take-le c.join-joined.result _ (omega (arith, joined_fits (take c.args.c.held c.args.carry.now ++ c.args.words.now) c.join-joined.result c.join-joined.ensures.1, c.requires.line_len, c.join-joined.auto.line)))

pub returns-then-whole-gt0 : goal.returns-then-whole-gt0
returns-then-whole-gt0 c = let a = c.args in
    first_run a.c a.words.now a.carry.now _ c.requires.held_in_bounds c.requires.carry_value c.join-joined.ensures c.look-seen.ensures c.words_of-whole.ensures c.if-whole-gt0.true

pub rest-requires : goal.rest-requires
rest-requires c = let a = c.args in
    first_room a.c a.words.now a.carry.now _ c.requires.held_in_bounds c.requires.carry_value c.join-joined.ensures c.look-seen.ensures c.words_of-whole.ensures c.requires.most_line_in_bounds

pub returns : goal.returns
returns c = let a = c.args in
    first_settled a.c a.words.now a.carry.now _ c.requires.held_in_bounds c.requires.carry_value c.join-joined.ensures c.look-seen.ensures c.words_of-whole.ensures c.if-whole-gt0.false c.rest.ensures
