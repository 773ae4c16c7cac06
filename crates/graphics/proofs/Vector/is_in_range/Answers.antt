-- `graphics::Vector::is_in_range` meets its contract: it is what the two tests ensure. Assumes nothing.
use Prim.Native.Nat.{◌^◌, ◌<◌}
use native.Mathlib.Omega.{arith}
use lib.Signed.{mag}
use Rattle.int.proofs.Words.{back32}
use Rattle.graphics.proofs.Seen.{vector}
use Rattle.graphics.proofs.Vector.is_in_range.Goals as goal

pub returns : goal.returns
returns c = let v = c.args.self in
    let x_fits : mag v.x < 2 ^ 31 = omega arith in
    let y_fits : mag v.y < 2 ^ 31 = omega arith in
    vector v (back32 v.x x_fits) (back32 v.y y_fits) c.within.ensures c.within-2.ensures
