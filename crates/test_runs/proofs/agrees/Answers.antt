-- `test_runs::agrees` is safe: each list is the part of its room that its length says, and the room keeps its length. Assumes nothing.
use mathlib.Core.Path.{sym}
use lib.Seq.{length-take-le}
use Rattle.test_runs.proofs.agrees.Goals as goal

pub slice_bounds-agrees_given-end : goal.slice_bounds-agrees_given-end
slice_bounds-agrees_given-end c = c.load_words-n14.ensures

pub slice_bounds-agrees_given-end-2 : goal.slice_bounds-agrees_given-end-2
slice_bounds-agrees_given-end-2 c = sym (length-take-le _ _ c.load_words-n14.ensures)

pub slice_bounds-agrees_given-end-3 : goal.slice_bounds-agrees_given-end-3
slice_bounds-agrees_given-end-3 c = c.load_words-n13.ensures

pub slice_bounds-agrees_given-end-4 : goal.slice_bounds-agrees_given-end-4
slice_bounds-agrees_given-end-4 c = sym (length-take-le _ _ c.load_words-n13.ensures)

pub slice_bounds-agrees_given-end-5 : goal.slice_bounds-agrees_given-end-5
slice_bounds-agrees_given-end-5 c = c.load_words-n0.ensures

pub slice_bounds-agrees_given-end-6 : goal.slice_bounds-agrees_given-end-6
slice_bounds-agrees_given-end-6 c = sym (length-take-le _ _ c.load_words-n0.ensures)

pub slice_bounds-agrees_given-end-7 : goal.slice_bounds-agrees_given-end-7
slice_bounds-agrees_given-end-7 c = c.load_words-n1.ensures

pub slice_bounds-agrees_given-end-8 : goal.slice_bounds-agrees_given-end-8
slice_bounds-agrees_given-end-8 c = sym (length-take-le _ _ c.load_words-n1.ensures)

pub slice_bounds-agrees_given-end-9 : goal.slice_bounds-agrees_given-end-9
slice_bounds-agrees_given-end-9 c = c.load_words-n2.ensures

pub slice_bounds-agrees_given-end-10 : goal.slice_bounds-agrees_given-end-10
slice_bounds-agrees_given-end-10 c = sym (length-take-le _ _ c.load_words-n2.ensures)

pub slice_bounds-agrees_given-end-11 : goal.slice_bounds-agrees_given-end-11
slice_bounds-agrees_given-end-11 c = c.load_words-n3.ensures

pub slice_bounds-agrees_given-end-12 : goal.slice_bounds-agrees_given-end-12
slice_bounds-agrees_given-end-12 c = sym (length-take-le _ _ c.load_words-n3.ensures)

pub slice_bounds-agrees_given-end-13 : goal.slice_bounds-agrees_given-end-13
slice_bounds-agrees_given-end-13 c = c.load_ends-n7.ensures

pub slice_bounds-agrees_given-end-14 : goal.slice_bounds-agrees_given-end-14
slice_bounds-agrees_given-end-14 c = sym (length-take-le _ _ c.load_ends-n7.ensures)
