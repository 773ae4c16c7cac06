-- `test_runs::agrees_given` is safe: each list is the part of its room that its length says, and the room keeps its length. Assumes nothing.
use mathlib.Core.Path.{sym}
use lib.Seq.{length-take-le}
use Rattle.test_runs.proofs.agrees_given.Goals as goal

pub slice_bounds-agrees_on-end : goal.slice_bounds-agrees_on-end
slice_bounds-agrees_on-end c = c.load_words-n4.ensures

pub slice_bounds-agrees_on-end-2 : goal.slice_bounds-agrees_on-end-2
slice_bounds-agrees_on-end-2 c = sym (length-take-le _ _ c.load_words-n4.ensures)

pub slice_bounds-agrees_on-end-3 : goal.slice_bounds-agrees_on-end-3
slice_bounds-agrees_on-end-3 c = c.load_words-n5.ensures

pub slice_bounds-agrees_on-end-4 : goal.slice_bounds-agrees_on-end-4
slice_bounds-agrees_on-end-4 c = sym (length-take-le _ _ c.load_words-n5.ensures)

pub slice_bounds-agrees_on-end-5 : goal.slice_bounds-agrees_on-end-5
slice_bounds-agrees_on-end-5 c = c.load_flags-n6.ensures

pub slice_bounds-agrees_on-end-6 : goal.slice_bounds-agrees_on-end-6
slice_bounds-agrees_on-end-6 c = sym (length-take-le _ _ c.load_flags-n6.ensures)

pub slice_bounds-agrees_on-end-7 : goal.slice_bounds-agrees_on-end-7
slice_bounds-agrees_on-end-7 c = c.load_words-n8.ensures

pub slice_bounds-agrees_on-end-8 : goal.slice_bounds-agrees_on-end-8
slice_bounds-agrees_on-end-8 c = sym (length-take-le _ _ c.load_words-n8.ensures)

pub slice_bounds-agrees_on-end-9 : goal.slice_bounds-agrees_on-end-9
slice_bounds-agrees_on-end-9 c = c.load_words-n9.ensures

pub slice_bounds-agrees_on-end-10 : goal.slice_bounds-agrees_on-end-10
slice_bounds-agrees_on-end-10 c = sym (length-take-le _ _ c.load_words-n9.ensures)

pub slice_bounds-agrees_on-end-11 : goal.slice_bounds-agrees_on-end-11
slice_bounds-agrees_on-end-11 c = c.load_words-n10.ensures

pub slice_bounds-agrees_on-end-12 : goal.slice_bounds-agrees_on-end-12
slice_bounds-agrees_on-end-12 c = sym (length-take-le _ _ c.load_words-n10.ensures)

pub slice_bounds-agrees_on-end-13 : goal.slice_bounds-agrees_on-end-13
slice_bounds-agrees_on-end-13 c = c.load_words-n11.ensures

pub slice_bounds-agrees_on-end-14 : goal.slice_bounds-agrees_on-end-14
slice_bounds-agrees_on-end-14 c = sym (length-take-le _ _ c.load_words-n11.ensures)

pub slice_bounds-agrees_on-end-15 : goal.slice_bounds-agrees_on-end-15
slice_bounds-agrees_on-end-15 c = c.load_flags-n12.ensures

pub slice_bounds-agrees_on-end-16 : goal.slice_bounds-agrees_on-end-16
slice_bounds-agrees_on-end-16 c = sym (length-take-le _ _ c.load_flags-n12.ensures)
