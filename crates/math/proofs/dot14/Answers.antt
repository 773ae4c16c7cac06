-- `math::dot14` meets its contract: the sum fits 64 bits but where both products are 2 ^ 62, and there the low bits of its half are 0.
-- Assumes nothing.
use mathlib.Core.Path.{◌≡◌, sym, ap₂, ◌∙◌, subst}
use mathlib.Core.Logic.{inl, inr, ⊎_elim}
use Prim.Native.Nat.{◌^◌, ◌≤◌}
use borrow.Author.Tests.{eqb-true, eqb-false}
use lib.IntN.{ℤ, ◌+ℤ◌, ◌*ℤ◌, nat_abs}
use mir.Syntax.{w32, w64}
use mir.Val.{SFits, to_z, of_z}
use mir.Facts.{to_z-of_z}
use Rattle.int.proofs.Words.{back32, back64}
use Rattle.math.proofs.Seen.{dot14}
use Rattle.math.proofs.Halves.{abs_prod, top_of, dot_fits, dot_top}
use Rattle.math.specs.Fixed.{dot_fix14}
use Rattle.math.proofs.dot14.Goals as goal
use Rattle.math.proofs.dot14.Goals.{Joined-else-p-eq-TOP}

-- what `product` gave
made : (a b p : ℤ) → SFits w32 a → SFits w32 b → p ≡ to_z w32 (of_z w32 a) *ℤ to_z w32 (of_z w32 b) → p ≡ a *ℤ b
made a b p f g e = e ∙ ap₂ ◌*ℤ◌ (to_z-of_z f) (to_z-of_z g)

small : (a b p : ℤ) → SFits w32 a → SFits w32 b → p ≡ to_z w32 (of_z w32 a) *ℤ to_z w32 (of_z w32 b) → nat_abs p ≤ 2 ^ 62
small a b p f g e = subst (λ (z : ℤ). nat_abs z ≤ 2 ^ 62) (sym (made a b p f g e)) (abs_prod a b f g)

sum_fits : (c : goal.Joined-else-p-eq-TOP) → SFits w64 (c.product-p.result +ℤ c.product-q.result)
sum_fits c = let p = c.product-p in let q = c.product-q in let s = c in
    dot_fits p.result q.result (small s.args.ax s.args.bx p.result s.ranges.ax s.ranges.bx p.ensures) (small s.args.ay s.args.by q.result s.ranges.ay s.ranges.by q.ensures) (⊎_elim (λ w. inr w.1) (λ w. inl w) c.else-p-eq-TOP.either)

pub returns-then-q-eq-TOP : goal.returns-then-q-eq-TOP
unfolding dot_fix14
returns-then-q-eq-TOP c = let p = c.product-p in let q = c.product-q in let s = c in
    let e = made s.args.ax s.args.bx p.result s.ranges.ax s.ranges.bx p.ensures in
    let d = made s.args.ay s.args.by q.result s.ranges.ay s.ranges.by q.ensures in
    sym (dot_top _ _ (sym e ∙ top_of p.result (record { sfits = p.type_inv }) c.if-p-eq-TOP.true) (sym d ∙ top_of q.result (record { sfits = q.type_inv }) (eqb-true (of_z w64 q.result) (2 ^ 62) c.if-q-eq-TOP.true-raw)))

pub overflow_add-p : goal.overflow_add-p
overflow_add-p c = let p = c.product-p in let q = c.product-q in subst (SFits w64) (sym (ap₂ ◌+ℤ◌ (back64 p.result p.type_inv) (back64 q.result q.type_inv))) (sum_fits c)

pub returns : goal.returns
returns c = let h = c in let j = h in let p = j.product-p in let q = j.product-q in let s = j in
    dot14 s.args.ax s.args.ay s.args.bx s.args.by (made s.args.ax s.args.bx p.result s.ranges.ax s.ranges.bx p.ensures) (made s.args.ay s.args.by q.result s.ranges.ay s.ranges.by q.ensures)
    (back64 p.result p.type_inv) (back64 q.result q.type_inv) (to_z-of_z (overflow_add-p (goal.at.returns c).Joined-else-p-eq-TOP)) (back64 h.half14.result h.half14.type_inv) h.half14.ensures (back32 c.low32.result c.low32.type_inv) c.low32.ensures
