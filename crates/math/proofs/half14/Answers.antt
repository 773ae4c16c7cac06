-- `math::half14` meets its contract: each step fits 64 bits, and the sum of the steps is the definition. Assumes nothing.
use Prim.Native.Nat.{◌^◌}
use lib.IntN.{◌+ℤ◌}
use mir.Facts.{to_z-of_z}
use Rattle.int.proofs.Words.{shr_fits}
use Rattle.math.proofs.Halves.{bias, bias_fits, rest, rest_fits, half_is, half_fits}
use Rattle.math.proofs.half14.Goals as goal

pub returns : goal.returns
unfolding bias rest
returns c = let p = c.args.p in let f = c.ranges.p in
    rw (to_z-of_z f, to_z-of_z (shr_fits p (2 ^ 63) f), to_z-of_z (bias_fits p f), to_z-of_z (rest_fits p f), to_z-of_z (shr_fits p (2 ^ 14) f), to_z-of_z (shr_fits (rest p +ℤ bias p) (2 ^ 14) (rest_fits p f)), to_z-of_z (half_fits p f)) (half_is p f)
