-- `int::wrapping_sub` meets its contract: at 64 bits nothing wraps, and `low32` wraps once. Assumes nothing.
use lib.IntN.{◌-ℤ◌}
use Rattle.int.proofs.Words.{back64, wide_read, diff_fits}
use Rattle.int.proofs.Wraps.{wrap_read}
use Rattle.int.specs.Word.{sub32}
use Rattle.int.proofs.wrapping_sub.Goals as goal

pub returns : goal.returns
unfolding sub32
returns c = let s = c in
    rw (c.low32.ensures, wide_read s.ranges.a, wide_read s.ranges.b, back64 (s.args.a -ℤ s.args.b) (diff_fits s.args.a s.args.b s.ranges.a s.ranges.b).sfits, wrap_read)
