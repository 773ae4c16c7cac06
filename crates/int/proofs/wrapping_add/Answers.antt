-- `int::wrapping_add` meets its contract: at 64 bits nothing wraps, and `low32` wraps once. Assumes nothing.
use mir.Facts.{to_z-of_z}
use Rattle.int.proofs.Words.{wide_read, sum_fits}
use Rattle.int.proofs.Wraps.{wrap_read}
use Rattle.int.specs.Word.{add32}
use Rattle.int.proofs.wrapping_add.Goals as goal

pub returns : goal.returns
unfolding add32
returns c = let s = c in
    rw (c.low32.ensures, wide_read s.ranges.a, wide_read s.ranges.b, to_z-of_z (sum_fits s.args.a s.args.b s.ranges.a s.ranges.b), wrap_read)
