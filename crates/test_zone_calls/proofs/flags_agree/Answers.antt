-- `test_zone_calls::flags_agree` is safe: each list is the part of its room that its length says. Assumes nothing.
use mathlib.Core.Path.{sym}
use native.Mathlib.Omega.{arith}
use lib.Seq.{length-take-le}
use Rattle.test_zone_calls.proofs.flags_agree.Goals as goal

pub slice_bounds-flags_agree_over-end-2 : goal.slice_bounds-flags_agree_over-end-2
slice_bounds-flags_agree_over-end-2 c = sym (length-take-le _ _ (omega arith))
