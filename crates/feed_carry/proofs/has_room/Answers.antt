-- `feed_carry::has_room` meets its contract, test by test. Assumes nothing.
use mathlib.Core.Path.{◌∙◌, ap, sym}
use native.Mathlib.Omega.{arith}
use borrow.Author.Tests.{not-false, not-true}
use lib.Seq.{length-take-le}
use Rattle.feed_carry.specs.Carry.{waits}
use Rattle.feed_carry.proofs.Rooms.{as_left, no_beginning, no_carry, not_held, too_far}
use Rattle.feed_carry.proofs.has_room.Goals as goal

pub returns-then-carry-lt-LINE : goal.returns-then-carry-lt-LINE
returns-then-carry-lt-LINE c = let a = c.args in no_carry a.base a.held a.words a.carry.now c.if-carry-lt-LINE.true

pub returns-then-carry-held : goal.returns-then-carry-held
returns-then-carry-held c = let a = c.args in not_held a.base a.held a.words a.carry.now c.if-carry-lt-LINE.false c.if-carry-held.true

pub slice_bounds-look-end : goal.slice_bounds-look-end
slice_bounds-look-end c = let a = c.args in sym (length-take-le a.held a.carry.now c.if-carry-held.false)

pub returns-then-not-is_waiting : goal.returns-then-not-is_waiting
returns-then-not-is_waiting c = let a = c.args in
    no_beginning a.base a.held a.words a.carry.now c.if-carry-lt-LINE.false c.if-carry-held.false (sym (not-true _ c.if-not-is_waiting.true-raw) ∙ c.is_waiting.ensures ∙ ap waits c.look.ensures)

pub returns-then-base-gt-WORDS : goal.returns-then-base-gt-WORDS
returns-then-base-gt-WORDS c = let a = c.args in
    too_far a.base a.held a.words a.carry.now c.if-carry-lt-LINE.false c.if-carry-held.false (sym (not-false _ c.if-not-is_waiting.false-raw) ∙ c.is_waiting.ensures ∙ ap waits c.look.ensures) (omega (arith, c.if-base-gt-WORDS.true))

pub returns-then-base-held : goal.returns-then-base-held
returns-then-base-held c = let a = c.args in
    too_far a.base a.held a.words a.carry.now c.if-carry-lt-LINE.false c.if-carry-held.false (sym (not-false _ c.if-not-is_waiting.false-raw) ∙ c.is_waiting.ensures ∙ ap waits c.look.ensures) (omega (arith, c.if-base-held.true))

pub returns : goal.returns
returns c = let a = c.args in
    as_left a.base a.held a.words a.carry.now c.if-carry-lt-LINE.false c.if-carry-held.false (sym (not-false _ c.if-not-is_waiting.false-raw) ∙ c.is_waiting.ensures ∙ ap waits c.look.ensures) (omega (arith, c.if-base-gt-WORDS.false, c.if-base-held.false))
