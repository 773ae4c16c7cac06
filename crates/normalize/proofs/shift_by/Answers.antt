-- `normalize::shift_by` meets its contract: no bit is lost on the way up. Assumes nothing.
use mathlib.Core.Path.{◌≡◌, refl}
use Prim.Native.Nat.{◌*◌, ◌%◌, ◌^◌, ◌≤◌}
use native.Mathlib.Omega.{arith}
use native.Mathlib.Nat.{div-le_self, le_trans}
use Rattle.normalize.proofs.Seen.{places_fit}
use Rattle.normalize.specs.Unit.{shifted}
use Rattle.normalize.proofs.shift_by.Goals as goal

pub returns : goal.returns
unfolding shifted
returns c = let a = c.args in
    let m : a.n * 2 ^ a.up ≤ 2 ^ 49 = places_fit c.requires.0 c.requires.1.1 in
    let e : (a.n * 2 ^ a.up) % 2 ^ 64 ≡ a.n * 2 ^ a.up = omega (arith, m) in
    rw e (refl, le_trans (div-le_self (a.n * 2 ^ a.up) (2 ^ a.down)) m)
