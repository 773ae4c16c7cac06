-- `int::wrapping_div` meets its contract: by whether the divisor is 0; at 64 bits no quotient wraps. Assumes nothing.
use lib.Dec.{lit<}
use lib.IntN.{pos}
use mir.Facts.{to_z-of_z}
use Rattle.int.proofs.Ints.{quot_zero}
use Rattle.int.proofs.Words.{wide_read, quot_fits, zero_of}
use Rattle.int.proofs.Wraps.{wrap_read, wrap_id}
use Rattle.int.specs.Word.{quot32}
use Rattle.int.proofs.wrapping_div.Goals as goal

pub returns-then-b-eq0 : goal.returns-then-b-eq0
unfolding quot32
returns-then-b-eq0 c = let s = c in
    rw (zero_of s.args.b s.ranges.b c.if-b-eq0.true, quot_zero s.args.a, wrap_id (pos 0) (record { sfits = lit< tt }))

pub returns-else-b-eq0 : goal.returns-else-b-eq0
unfolding quot32
returns-else-b-eq0 c = let s = c in
    rw (c.low32.ensures, wide_read s.ranges.a, wide_read s.ranges.b, to_z-of_z (quot_fits s.args.a s.args.b s.ranges.a), wrap_read)
