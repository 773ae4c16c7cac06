-- `int::from_bits` meets its contract: `low32` of a number below 2 ^ 32 reads its 32 bits as signed. Assumes nothing.
use Prim.Native.Nat.{◌^◌, ◌<◌}
use native.Mathlib.Omega.{arith}
use mir.Syntax.{w64}
use mir.Facts.{to_z_pos}
use Rattle.int.proofs.Wraps.{wrap_read, wrap_pos}
use Rattle.int.proofs.from_bits.Goals as goal

pub returns : goal.returns
returns c = let s = c in
    let l : s.args.u < 2 ^ 32 = s.ranges.u.fits in
    rw (c.low32.ensures, to_z_pos w64 {n = s.args.u} (omega arith), wrap_read, wrap_pos s.args.u l)
