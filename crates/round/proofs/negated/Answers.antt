-- `round::negated` meets its contract: at 64 bits nothing is past, and `cut` cuts once. Assumes nothing.
use native.Mathlib.Omega.{arith}
use lib.IntN.{+ℤ_idl}
use mir.Facts.{to_z-of_z}
use mir.Syntax.{w32}
use mir.Val.{SFits}
use Rattle.int.proofs.Words.{wide_read, neg_fits}
use Rattle.round.specs.Tracked.{cut, negated}
use Rattle.round.proofs.negated.Goals as goal

pub returns : goal.returns
unfolding negated
returns c =
    let first : (SFits w32 c.args.a.word) = (record { sfits = omega arith }) in
    rw (c.cut.ensures, wide_read first, +ℤ_idl, to_z-of_z (neg_fits c.args.a.word first))
