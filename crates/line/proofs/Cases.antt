-- A point put somewhere, one coordinate after the other. Assumes nothing.
use mathlib.Core.Path.{◌≡◌, ap, ◌∙◌}
use mathlib.Core.List.{List}
use Prim.Native.Nat.{ℕ}
use lib.IntN.{ℤ}
use lib.ListN.{set}
use Rattle.graphics.specs.declared.Vector.{Vector}
use Rattle.line.specs.Places.{pair, put_at}

pub put_both : (place : Vector) (at : ℕ) (xs ys : List ℤ) {x y : ℤ} {xs2 ys2 : List ℤ} → x ≡ place.x → y ≡ place.y → xs2 ≡ set xs at x → ys2 ≡ set ys at y → pair xs2 ys2 ≡ put_at place at xs ys
put_both place at xs ys {ys2 = ys2} p q e f =
    ap (λ (l : List ℤ). pair l ys2) (e ∙ ap (set xs at) p)
    ∙ ap (pair (set xs at place.x)) (f ∙ ap (set ys at) q)
