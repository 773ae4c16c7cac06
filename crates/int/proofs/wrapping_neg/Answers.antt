-- `int::wrapping_neg` meets its contract: at 64 bits nothing wraps, and `low32` wraps once. Assumes nothing.
use lib.IntN.{neg_ℤ, +ℤ_idl}
use Rattle.int.proofs.Words.{back64, wide_read, neg_fits}
use Rattle.int.proofs.Wraps.{wrap_read}
use Rattle.int.specs.Word.{neg32}
use Rattle.int.proofs.wrapping_neg.Goals as goal

pub returns : goal.returns
unfolding neg32
returns c = let s = c in
    rw (c.low32.ensures, wide_read s.ranges.a, +ℤ_idl, back64 (neg_ℤ s.args.a) (neg_fits s.args.a s.ranges.a).sfits, wrap_read)
