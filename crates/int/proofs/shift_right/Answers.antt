-- `int::shift_right` meets its contract: below 31 it is the machine's shift, and from there on every shift gives 0 or -1.
-- Assumes nothing.
use Prim.Native.Nat.{◌^◌}
use lib.Pow.{pow_mono}
use mir.Facts.{to_z-of_z}
use Rattle.int.proofs.Words.{shr_fits, shr_most}
use Rattle.int.proofs.shift_right.Goals as goal

pub returns-else-k-lt31 : goal.returns-else-k-lt31
returns-else-k-lt31 c = let s = c in
    rw (to_z-of_z s.ranges.a, to_z-of_z (shr_fits s.args.a (2 ^ 31) s.ranges.a)) (shr_most s.args.a (2 ^ s.args.k) s.ranges.a (pow_mono c.if-k-lt31.false))
