-- `round::plus` meets its contract: at 64 bits nothing is past, and `cut` cuts once. Assumes nothing.
use native.Mathlib.Omega.{arith}
use mir.Facts.{to_z-of_z}
use mir.Syntax.{w32}
use mir.Val.{SFits}
use Rattle.int.proofs.Words.{wide_read, sum_fits}
use Rattle.round.specs.Tracked.{cut, plus}
use Rattle.round.proofs.plus.Goals as goal

pub returns : goal.returns
unfolding plus
returns c =
    let first : (SFits w32 c.args.a.word) = (record { sfits = omega arith }) in
    let second : (SFits w32 c.args.b.word) = (record { sfits = omega arith }) in
    rw (c.cut.ensures, wide_read first, wide_read second, to_z-of_z (sum_fits c.args.a.word c.args.b.word first second))
