-- What is true of every two words: Newton's steps end by their own test, before the steps given are used up; and the vector is one that the state test of
-- crate graphics lets in. Assumes nothing.
use mathlib.Core.Path.{◌≡◌, refl, sym, ap, ◌∙◌, subst}
use mathlib.Core.Bool.{Bool, true, false, cond}
use Prim.Native.Nat.{ℕ, zero, suc, ◌+◌, ◌*◌, ◌/◌, ◌≤◌, ◌<◌}
use native.Mathlib.Omega.{arith}
use borrow.Author.Tests.{le-leb}
use lib.IntN.{ℤ, pos, negsuc, neg_ℤ, nat_abs}
use lib.Signed.{lt_z, quot_z, nat_abs-le}
use mir.Syntax.{w32}
use mir.Val.{SFits}
use Rattle.int.specs.Word.{wrap32, neg32, quot32, eq_z, add32}
use Rattle.graphics.specs.State.{in_range, vector_in_range}
use Rattle.normalize.specs.Unit.{correction, settled, rounds, start_of, component, aimed, aimed_from, unit_by, unit_of}
use Rattle.normalize.specs.declared.Start.{Start}
use Rattle.normalize.proofs.Newton.{x_part, y_part, g_lt}
use Rattle.normalize.proofs.Settles.{wrap_of, wrap_neg_of, quot_neg, grown_is, comes_to_rest}
use Rattle.normalize.proofs.Nearness.{Started, starts}

-- ---- a word that is not 0
some_of : (z : ℤ) → eq_z z (pos 0) ≡ false → 0 < nat_abs z
some_of (pos zero) e = let q : ◌≡◌ {A = ℕ} 0 1 = cc e in omega (arith, q)
some_of (pos (suc n)) e = omega arith
some_of (negsuc n) e = omega arith

begun : (x y : ℤ) → SFits w32 x → SFits w32 y → eq_z x (pos 0) ≡ false → eq_z y (pos 0) ≡ false → Started (start_of (nat_abs x) (nat_abs y))
begun x y f g e d = starts (nat_abs x) (nat_abs y) (some_of x e) (some_of y d) (nat_abs-le x f.sfits) (nat_abs-le y g.sfits)

-- ---- the steps end by their own test
abbrev pub at_rest : Start → ℤ → Bool
at_rest s b = lt_z (pos 0) (correction s.x s.y b)

rest_of : (s : Start) → Started s → at_rest s (settled rounds s.x s.y s.b) ≡ false
rest_of s h =
    let x = h.0 in let y = h.1.0 in let g = h.1.1.0 in
    let rest = comes_to_rest x y h.1.1.1.0 rounds g h.1.1.1.1.0 (omega arith) in
    subst (λ (t : Start). at_rest t (settled rounds t.x t.y t.b) ≡ false) (sym h.1.1.1.1.1)
    (ap (λ (b : ℤ). lt_z (pos 0) (correction (pos x) (pos y) b)) rest.1.1.0 ∙ rest.1.1.1)

pub settles :
    (x y : ℤ) → SFits w32 x → SFits w32 y → eq_z x (pos 0) ≡ false → eq_z y (pos 0) ≡ false →
    let s = start_of (nat_abs x) (nat_abs y) in at_rest s (settled rounds s.x s.y s.b) ≡ false
settles x y f g e d = rest_of (start_of (nat_abs x) (nat_abs y)) (begun x y f g e d)

-- so that with more steps given, nothing else comes out
module _ (x y : ℤ) where
  no_further : (k : ℕ) (b : ℤ) → lt_z (pos 0) (correction x y b) ≡ false → settled k x y b ≡ b
  unfolding settled
  no_further zero b e = refl
  no_further (suc k) b e = rw e refl

  by_test :
      (n k : ℕ) (b : ℤ) → (lt_z (pos 0) (correction x y (settled n x y (add32 b (correction x y b)))) ≡ false → settled (n + k) x y (add32 b (correction x y b)) ≡ settled n x y (add32 b (correction x y b))) →
      (t : Bool) → lt_z (pos 0) (correction x y b) ≡ t → lt_z (pos 0) (correction x y (settled (suc n) x y b)) ≡ false → settled (suc (n + k)) x y b ≡ settled (suc n) x y b
  unfolding settled
  by_test n k b go true d e = rw d (go (subst (λ (t : Bool). lt_z (pos 0) (correction x y (cond t (settled n x y (add32 b (correction x y b))) b)) ≡ false) d e))
  by_test n k b go false d e = rw d refl

  longer : (n k : ℕ) (b : ℤ) → lt_z (pos 0) (correction x y (settled n x y b)) ≡ false → settled (n + k) x y b ≡ settled n x y b
  unfolding settled
  longer zero k b e = let z : 0 + k ≡ k = omega arith in ap (λ (i : ℕ). settled i x y b) z ∙ no_further k b e
  longer (suc n) k b e = let z : suc n + k ≡ suc (n + k) = omega arith in ap (λ (i : ℕ). settled i x y b) z ∙ by_test n k b (λ d. longer n k (add32 b (correction x y b)) d) (lt_z (pos 0) (correction x y b)) refl e

pub never_more :
    (x y : ℤ) (k : ℕ) → SFits w32 x → SFits w32 y → eq_z x (pos 0) ≡ false → eq_z y (pos 0) ≡ false →
    let s = start_of (nat_abs x) (nat_abs y) in settled (rounds + k) s.x s.y s.b ≡ settled rounds s.x s.y s.b
never_more x y k f g e d = let s = start_of (nat_abs x) (nat_abs y) in longer s.x s.y rounds k s.b (settles x y f g e d)

-- ---- the vector is in range
quarter : (t : Bool) (u : ℕ) → u < 65540 → in_range (component t (pos u)) ≡ true
unfolding component quot32 neg32
quarter false u h =
    let e : wrap32 (quot_z (pos u) (pos 4)) ≡ pos (u / 4) = wrap_of (u / 4) (omega (arith, h)) in
    rw (e, le-leb (u / 4) 16384 (omega (arith, h))) refl
quarter true u h =
    rw (wrap_neg_of u (omega (arith, h)), quot_neg u 3, wrap_neg_of (u / 4) (omega (arith, h))) (below (u / 4) (omega (arith, h))) where
      below : (m : ℕ) → m ≤ 16384 → in_range (neg_ℤ (pos m)) ≡ true
      below zero l = refl
      below (suc m) l = rw (le-leb m 16383 (omega (arith, l))) refl

unit_by_in_range : (x : ℤ) → in_range (unit_by x) ≡ true
unit_by_in_range (pos zero) = refl
unit_by_in_range (pos (suc n)) = refl
unit_by_in_range (negsuc n) = refl

aimed_in_range : (x y : ℤ) (s : Start) → Started s → vector_in_range (aimed_from x y s) ≡ true
unfolding vector_in_range aimed_from aimed
aimed_in_range x y s h =
    let p = h.0 in let q = h.1.0 in let g = h.1.1.0 in let near = h.1.1.1.0 in
    let rest = comes_to_rest p q near rounds g h.1.1.1.1.0 (omega arith) in
    let r = rest.0 in let held = rest.1.0 in
    let xs = x_part p q r near held in let ys = y_part p q r near held in let below = g_lt p q r near held in
    let u = grown_is p r xs near.0 held.0 below in
    let v = grown_is q r ys near.1.0 held.0 below in
    rw (h.1.1.1.1.1, rest.1.1.0, u, v, quarter (lt_z x (pos 0)) (p * r / 65536) (omega (arith, xs)), quarter (lt_z y (pos 0)) (q * r / 65536) (omega (arith, ys))) refl

by_zero : (x y : ℤ) → SFits w32 x → SFits w32 y → (m n : Bool) → eq_z x (pos 0) ≡ m → eq_z y (pos 0) ≡ n → vector_in_range (unit_of x y) ≡ true
unfolding unit_of vector_in_range
by_zero x y f g true n e d = rw (e, unit_by_in_range x, unit_by_in_range y) refl
by_zero x y f g false true e d = rw (e, d, unit_by_in_range x, unit_by_in_range y) refl
by_zero x y f g false false e d = rw (e, d) (aimed_in_range x y (start_of (nat_abs x) (nat_abs y)) (begun x y f g e d))

pub unit_in_range : (x y : ℤ) → SFits w32 x → SFits w32 y → vector_in_range (unit_of x y) ≡ true
unit_in_range x y f g = by_zero x y f g (eq_z x (pos 0)) (eq_z y (pos 0)) refl refl
