-- `test_zone_calls::fetched` is safe: each list is the part of its room that its length says. Assumes nothing.
use mathlib.Core.Path.{sym}
use native.Mathlib.Omega.{arith}
use lib.Seq.{length-take-le}
use Rattle.test_zone_calls.proofs.fetched.Goals as goal

pub slice_bounds-try_fetch-end-2 : goal.slice_bounds-try_fetch-end-2
slice_bounds-try_fetch-end-2 c = sym (length-take-le _ _ (omega arith))

pub slice_bounds-try_fetch-end-4 : goal.slice_bounds-try_fetch-end-4
slice_bounds-try_fetch-end-4 c = sym (length-take-le _ _ (omega arith))
