-- `round::over` meets its contract: by whether the divisor is 0; at 64 bits nothing is past, and `cut` cuts once. Assumes nothing.
use native.Mathlib.Omega.{arith}
use mir.Facts.{to_z-of_z}
use mir.Syntax.{w32}
use mir.Val.{SFits}
use Rattle.int.proofs.Ints.{quot_zero}
use Rattle.int.proofs.Words.{wide_read, quot_fits, zero_of}
use Rattle.round.specs.Tracked.{cut, over}
use Rattle.round.proofs.Exact.{or_no}
use Rattle.round.proofs.over.Goals as goal

pub returns-then-b-eq0 : goal.returns-then-b-eq0
unfolding over
returns-then-b-eq0 c = let e = c in let s = e in
    rw (c.cut.ensures, zero_of s.args.b s.ranges.b e.if-b-eq0.true, quot_zero s.args.a.word, or_no s.args.a.wrapped)

pub returns-else-b-eq0 : goal.returns-else-b-eq0
unfolding over
returns-else-b-eq0 c =
    let first : (SFits w32 c.args.a.word) = (record { sfits = omega arith }) in
    let s = c in
    rw (c.cut-else-b-eq0.ensures, wide_read first, wide_read s.ranges.b, to_z-of_z (quot_fits s.args.a.word s.args.b first), or_no s.args.a.wrapped)
