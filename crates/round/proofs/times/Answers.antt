-- `round::times` meets its contract: at 64 bits nothing is past, and `cut` cuts once. Assumes nothing.
use native.Mathlib.Omega.{arith}
use mir.Facts.{to_z-of_z}
use mir.Syntax.{w32}
use mir.Val.{SFits}
use Rattle.int.proofs.Words.{wide_read, prod_fits}
use Rattle.round.specs.Tracked.{cut, times}
use Rattle.round.proofs.Exact.{or_no}
use Rattle.round.proofs.times.Goals as goal

pub returns : goal.returns
unfolding times
returns c =
    let first : (SFits w32 c.args.a.word) = (record { sfits = omega arith }) in
    rw (c.cut.ensures, wide_read first, wide_read c.ranges.b, to_z-of_z (prod_fits c.args.a.word c.args.b first c.ranges.b), or_no c.args.a.wrapped)
