-- What K10 says is false of the walk of before K8. Assumes nothing.
use mathlib.Core.Bool.{false}
use mathlib.Core.List.{List, []}
use mathlib.Core.Path.{◌≡◌, ap, sym, ◌∙◌}
use Prim.Native.Nat.{ℕ, ◌-◌}
use native.Mathlib.Omega.{arith}
use lib.IntN.{nat_abs, pos, ℤ}
use lib.ListN.{get_or}
use Rattle.flags.specs.declared.Axis.{Axis}
use Rattle.laws_iup.specs.Contours.{AgreeBut}
use Rattle.laws_iup.proofs.Examples.{old_walk, old_walk_disturbs, sloppy, walked_by}

-- so that what K10 says is false of it
pub old_walk_breaks : (axis : Axis) → AgreeBut (pos 0) sloppy 2 (walked_by (old_walk 8 0) axis (pos 37)) (walked_by (old_walk 8 0) axis (pos 40)) → ⊥
old_walk_breaks axis a =
    let e = old_walk_disturbs axis in
    let l = walked_by (old_walk 8 0) axis in
    let same : get_or (l (pos 37)) 0 (pos 0) ≡ get_or (l (pos 40)) 0 (pos 0) = a.others 0 (λ x. omega (arith, x.0)) in
    let seven : get_or (l (pos 37)) 0 (pos 0) ≡ pos 7 = ap (λ (t : List (List ℤ)). get_or (get_or t 0 []) 0 (pos 0)) e in
    let ten : get_or (l (pos 40)) 0 (pos 0) ≡ pos 10 = ap (λ (t : List (List ℤ)). get_or (get_or t 1 []) 0 (pos 0)) e in
    let z : ◌≡◌ {A = ℕ} 7 10 = ap nat_abs (sym seven ∙ same ∙ ten) in
    omega arith
