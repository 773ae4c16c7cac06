-- `test_state_calls::move_agrees` is safe: each list is the part of its room that its length says. Assumes nothing.
use mathlib.Core.Path.{sym}
use native.Mathlib.Omega.{arith}
use lib.Seq.{length-take-le}
use Rattle.test_state_calls.proofs.move_agrees.Goals as goal

pub slice_bounds-move_agrees_over-end-2 : goal.slice_bounds-move_agrees_over-end-2
slice_bounds-move_agrees_over-end-2 c = sym (length-take-le _ _ (omega arith))

pub slice_bounds-move_agrees_over-end-4 : goal.slice_bounds-move_agrees_over-end-4
slice_bounds-move_agrees_over-end-4 c = sym (length-take-le _ _ (omega arith))

pub slice_bounds-move_agrees_over-end-6 : goal.slice_bounds-move_agrees_over-end-6
slice_bounds-move_agrees_over-end-6 c = sym (length-take-le _ _ (omega arith))

pub slice_bounds-move_agrees_over-end-8 : goal.slice_bounds-move_agrees_over-end-8
slice_bounds-move_agrees_over-end-8 c = sym (length-take-le _ _ (omega arith))

pub slice_bounds-move_agrees_over-end-10 : goal.slice_bounds-move_agrees_over-end-10
slice_bounds-move_agrees_over-end-10 c = sym (length-take-le _ _ (omega arith))

pub slice_bounds-move_agrees_over-end-12 : goal.slice_bounds-move_agrees_over-end-12
slice_bounds-move_agrees_over-end-12 c = sym (length-take-le _ _ (omega arith))
