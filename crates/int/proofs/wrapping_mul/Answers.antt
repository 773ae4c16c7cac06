-- `int::wrapping_mul` meets its contract: at 64 bits nothing wraps, and `low32` wraps once. Assumes nothing.
use lib.IntN.{◌*ℤ◌}
use Rattle.int.proofs.Words.{back64, wide_read, prod_fits}
use Rattle.int.proofs.Wraps.{wrap_read}
use Rattle.int.specs.Word.{mul32}
use Rattle.int.proofs.wrapping_mul.Goals as goal

pub returns : goal.returns
unfolding mul32
returns c = let s = c in
    rw (c.low32.ensures, wide_read s.ranges.a, wide_read s.ranges.b, back64 (s.args.a *ℤ s.args.b) (prod_fits s.args.a s.args.b s.ranges.a s.ranges.b).sfits, wrap_read)
