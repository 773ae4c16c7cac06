-- A place outside lists that share one length. Assumes nothing.
use Prim.Native.Nat.{ℕ, ◌≤◌}
use mathlib.Core.List.{List}
use mathlib.Core.Path.{◌≡◌, refl, sym}
use native.Mathlib.Omega.{arith}
use lib.IntN.{ℤ, pos}
use lib.ListN.{length}
use Rattle.graphics.specs.declared.Vector.{Vector}
use Rattle.zone.proofs.Cases.{get_d_out}
use Rattle.zone.specs.Zone.{place_of}

pub place_outside : (xs ys : List ℤ) (at : ℕ) → length ys ≡ length xs → length xs ≤ at → ◌≡◌ {A = Vector} (record { x = pos 0; y = pos 0 }) (place_of xs ys at)
place_outside xs ys at e h = rw (get_d_out xs at (pos 0) h, get_d_out ys at (pos 0) (omega (arith, e, h))) refl
