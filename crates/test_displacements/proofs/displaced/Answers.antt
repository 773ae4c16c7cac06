-- `test_displacements::displaced` is safe: each list is the part of its room that its length says. Assumes nothing.
use mathlib.Core.Path.{sym}
use native.Mathlib.Omega.{arith}
use lib.Seq.{length-take-le}
use Rattle.test_displacements.proofs.displaced.Goals as goal

pub slice_bounds-displaced_from-end-2 : goal.slice_bounds-displaced_from-end-2
slice_bounds-displaced_from-end-2 c = sym (length-take-le _ _ (omega arith))

pub slice_bounds-displaced_from-end-4 : goal.slice_bounds-displaced_from-end-4
slice_bounds-displaced_from-end-4 c = sym (length-take-le _ _ (omega arith))

pub slice_bounds-displaced_from-end-6 : goal.slice_bounds-displaced_from-end-6
slice_bounds-displaced_from-end-6 c = sym (length-take-le _ _ (omega arith))

pub slice_bounds-displaced_from-end-8 : goal.slice_bounds-displaced_from-end-8
slice_bounds-displaced_from-end-8 c = sym (length-take-le _ _ (omega arith))

pub slice_bounds-displaced_from-end-10 : goal.slice_bounds-displaced_from-end-10
slice_bounds-displaced_from-end-10 c = sym (length-take-le _ _ (omega arith))

pub slice_bounds-displaced_from-end-12 : goal.slice_bounds-displaced_from-end-12
slice_bounds-displaced_from-end-12 c = sym (length-take-le _ _ (omega arith))

pub slice_bounds-displaced_from-end-14 : goal.slice_bounds-displaced_from-end-14
slice_bounds-displaced_from-end-14 c = sym (length-take-le _ _ (omega arith))

pub slice_bounds-displaced_from-end-16 : goal.slice_bounds-displaced_from-end-16
slice_bounds-displaced_from-end-16 c = sym (length-take-le _ _ (omega arith))
