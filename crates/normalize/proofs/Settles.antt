-- Newton's steps on words come to rest: they are the steps on magnitudes of proofs/Newton.antt, each of which adds at least 1 to a number below 117,300,
-- so that the steps given are never used up; and what is at rest is no longer than a unit vector may be. Assumes nothing.
use mathlib.Core.Path.{◌≡◌, refl, sym, ap, ◌∙◌, subst}
use mathlib.Core.Logic.{⊎_elim}
use mathlib.Core.Bool.{false}
use Prim.Native.Nat.{ℕ, zero, suc, ◌+◌, ◌-◌, ◌*◌, ◌/◌, ◌^◌, ◌≤◌, ◌<◌}
use native.Mathlib.Omega.{arith}
use native.Mathlib.Nat.{mul-le-mul, div-eq_of_lt}
use borrow.Author.Tests.{lt-ltb, le-ltb}
use lib.IntN.{ℤ, pos, negsuc, neg_ℤ, sub_ℕ, ◌+ℤ◌, ◌*ℤ◌}
use lib.Signed.{lt_z, shr_z, quot_z}
use mir.Syntax.{w32}
use mir.Val.{SFits}
use Rattle.int.proofs.Ints.{split, sub_lo, sub_hi, neg_suc}
use Rattle.int.proofs.Wraps.{wrap_id, wrap_neg, wrap_unique, wrap_add_l, wrap_add_r, low_negpos}
use Rattle.int.specs.Word.{wrap32, add32, neg32, mul32, quot32, low}
use Rattle.normalize.specs.Unit.{grown, lacking, correction, settled}
use Rattle.normalize.proofs.Newton.{Near, Held, part_le, step_le, x_part, y_part, g_lt, squares_le, over_lt, under_lt}

-- ---- words that are small numbers
pub wrap_of : (n : ℕ) → n < 2 ^ 31 → wrap32 (pos n) ≡ pos n
wrap_of n h = wrap_id (pos n) (record { sfits = h })

pub wrap_neg_of : (n : ℕ) → n ≤ 2 ^ 31 → wrap32 (neg_ℤ (pos n)) ≡ neg_ℤ (pos n)
wrap_neg_of zero h = wrap_of 0 (omega arith)
wrap_neg_of (suc n) h = wrap_id (negsuc n) (record { sfits = h })

pub quot_neg : (n d : ℕ) → quot_z (neg_ℤ (pos n)) (pos (suc d)) ≡ neg_ℤ (pos (n / suc d))
quot_neg zero d = let e : 0 / suc d ≡ 0 = div-eq_of_lt (omega arith) in rw e refl
quot_neg (suc n) d = refl

mul_neg : (m h : ℕ) → neg_ℤ (pos m) *ℤ pos h ≡ neg_ℤ (pos (m * h))
mul_neg zero h = let e : 0 * h ≡ 0 = omega arith in rw e refl
mul_neg (suc m) h = refl

not_above : (n : ℕ) → lt_z (pos 0) (neg_ℤ (pos n)) ≡ false
not_above zero = refl
not_above (suc n) = refl

shr_neg : (m : ℕ) → shr_z (neg_ℤ (pos m)) 65536 ≡ neg_ℤ (pos ((m + 65535) / 65536))
shr_neg zero = refl
shr_neg (suc m) = sym (neg_suc ((suc m + 65535) / 65536) (m / 65536) (omega arith))

add_neg : (x c : ℕ) → c ≤ x → pos x +ℤ neg_ℤ (pos c) ≡ pos (x - c)
add_neg x zero h = ap pos (omega arith)
add_neg x (suc c) h = sub_hi x (suc c) h

spread : (x k n g : ℕ) → k + n ≡ g → x * g ≡ x * k + x * n
spread x k n g e = subst (λ (h : ℕ). x * h ≡ x * k + x * n) e (omega arith)

-- ---- what a number is grown to
module _ (x g : ℕ) (part : x * g < 65536 * 65540) (most : x ≤ 87381) (least : 43691 ≤ g) (below : g < 117300) where
  at_least_one : 65536 ≤ g → grown (sub_ℕ g 65536) (pos x) ≡ pos (x * g / 65536)
  unfolding grown add32 mul32
  at_least_one l =
      let k = g - 65536 in
      let e : k + 65536 ≡ g = omega (arith, l) in
      let w : x * g ≡ x * k + x * 65536 = spread x k 65536 g e in
      let s : x + x * k / 65536 ≡ x * g / 65536 = omega (arith, w) in
      ap (λ (z : ℤ). wrap32 (pos x +ℤ shr_z (wrap32 (pos x *ℤ z)) 65536)) (sub_hi g 65536 l)
      ∙ ap (λ (z : ℤ). wrap32 (pos x +ℤ shr_z z 65536)) (wrap_of (x * k) (over_lt x g part most least below k e))
      ∙ wrap_of (x + x * k / 65536) (omega (arith, s, part))
      ∙ ap pos s

  below_one : g < 65536 → grown (sub_ℕ g 65536) (pos x) ≡ pos (x * g / 65536)
  unfolding grown add32 mul32
  below_one l =
      let k = 65536 - suc g in
      let e : suc k + g ≡ 65536 = omega (arith, l) in
      let m = x * suc k in
      let w : x * 65536 ≡ m + x * g = spread x (suc k) g 65536 e in
      let c = (m + 65535) / 65536 in
      let s : x - c ≡ x * g / 65536 = omega (arith, w) in
      let f : m < 2 ^ 31 = under_lt x g part most least below (suc k) e in
      ap (λ (z : ℤ). wrap32 (pos x +ℤ shr_z (wrap32 (pos x *ℤ z)) 65536)) (sub_lo g 65536 l)
      ∙ ap (λ (z : ℤ). wrap32 (pos x +ℤ shr_z z 65536)) (wrap_neg_of m (omega (arith, f)))
      ∙ ap (λ (z : ℤ). wrap32 (pos x +ℤ z)) (shr_neg m)
      ∙ ap wrap32 (add_neg x c (omega (arith, w)))
      ∙ wrap_of (x - c) (omega (arith, most))
      ∙ ap pos s

  pub grown_is : grown (sub_ℕ g 65536) (pos x) ≡ pos (x * g / 65536)
  grown_is = ⊎_elim below_one at_least_one (split g 65536)

-- ---- what is lacking, modulo 2 ^ 32
squares : (u v : ℕ) → neg32 (add32 (mul32 (pos u) (pos u)) (mul32 (pos v) (pos v))) ≡ wrap32 (neg_ℤ (pos (u * u + v * v)))
unfolding neg32 add32 mul32
squares u v =
    ap (λ (z : ℤ). wrap32 (neg_ℤ z)) (wrap_add_l (pos (u * u)) (wrap32 (pos (v * v))) ∙ wrap_add_r (pos (u * u)) (pos (v * v)))
    ∙ wrap_neg (pos (u * u) +ℤ pos (v * v))

lacks : (Q : ℕ) → 2 ^ 31 < Q → Q < 2 ^ 32 → wrap32 (neg_ℤ (pos Q)) ≡ pos (2 ^ 32 - Q)
lacks Q f h = sym (wrap_unique (pos (2 ^ 32 - Q)) (neg_ℤ (pos Q)) (record { sfits = omega (arith, f, h) }) (omega (arith, low_negpos Q, f, h)))

too_long : (Q : ℕ) → 2 ^ 32 ≤ Q → Q ≤ 2 ^ 32 + 2 ^ 31 → wrap32 (neg_ℤ (pos Q)) ≡ neg_ℤ (pos (Q - 2 ^ 32))
too_long Q f h = wrap_unique' (Q - 2 ^ 32) (omega (arith, f, h)) (omega (arith, low_negpos Q, low_negpos (Q - 2 ^ 32), f, h)) where
  wrap_unique' : (m : ℕ) → m ≤ 2 ^ 31 → low (neg_ℤ (pos m)) ≡ low (neg_ℤ (pos Q)) → wrap32 (neg_ℤ (pos Q)) ≡ neg_ℤ (pos m)
  wrap_unique' zero l e = sym (wrap_unique (pos 0) (neg_ℤ (pos Q)) (record { sfits = omega arith }) e)
  wrap_unique' (suc m) l e = sym (wrap_unique (negsuc m) (neg_ℤ (pos Q)) (record { sfits = l }) e)

-- ---- the correction
abbrev corrected : ℤ → ℕ → ℤ
corrected w h = quot32 (mul32 (quot32 w (pos 512)) (pos h)) (pos 65536)

module _ (m h : ℕ) (hm : m ≤ 2 ^ 31) (hh : h ≤ 511) where
  product_le : m / 512 * h ≤ 2 ^ 22 * 511
  product_le = let i : m / 512 ≤ 2 ^ 22 = omega (arith, hm) in mul-le-mul i hh

  not_long : corrected (neg_ℤ (pos m)) h ≡ neg_ℤ (pos (m / 512 * h / 65536))
  unfolding quot32 mul32
  not_long =
      ap (λ (z : ℤ). wrap32 (quot_z (wrap32 (wrap32 z *ℤ pos h)) (pos 65536))) (quot_neg m 511)
      ∙ ap (λ (z : ℤ). wrap32 (quot_z (wrap32 (z *ℤ pos h)) (pos 65536))) (wrap_neg_of (m / 512) (omega (arith, hm)))
      ∙ ap (λ (z : ℤ). wrap32 (quot_z (wrap32 z) (pos 65536))) (mul_neg (m / 512) h)
      ∙ ap (λ (z : ℤ). wrap32 (quot_z z (pos 65536))) (wrap_neg_of (m / 512 * h) (omega (arith, product_le)))
      ∙ ap wrap32 (quot_neg (m / 512 * h) 65535)
      ∙ wrap_neg_of (m / 512 * h / 65536) (omega (arith, product_le))

  not_short : m < 2 ^ 31 → corrected (pos m) h ≡ pos (m / 512 * h / 65536)
  unfolding quot32 mul32
  not_short l =
      ap (λ (z : ℤ). wrap32 (quot_z (wrap32 (z *ℤ pos h)) (pos 65536))) (wrap_of (m / 512) (omega (arith, l)))
      ∙ ap (λ (z : ℤ). wrap32 (quot_z z (pos 65536))) (wrap_of (m / 512 * h) (omega (arith, product_le)))
      ∙ wrap_of (m / 512 * h / 65536) (omega (arith, product_le))

-- ---- b for g
back_to : (g : ℕ) → pos 65536 +ℤ sub_ℕ g 65536 ≡ pos g
back_to g = ⊎_elim
    (λ l. ap (λ (z : ℤ). pos 65536 +ℤ z) (sub_lo g 65536 l) ∙ sub_hi 65536 (suc (65536 - suc g)) (omega (arith, l)) ∙ ap pos (omega (arith, l)))
    (λ l. ap (λ (z : ℤ). pos 65536 +ℤ z) (sub_hi g 65536 l) ∙ ap pos (omega (arith, l)))
    (split g 65536)

shift_sub : (g z : ℕ) → g < 65536 → sub_ℕ z (suc (65536 - suc g)) ≡ sub_ℕ (g + z) 65536
shift_sub g z l = ⊎_elim
    (λ h. sub_lo z (suc (65536 - suc g)) (omega (arith, h, l)) ∙ ap negsuc (omega (arith, h, l)) ∙ sym (sub_lo (g + z) 65536 h))
    (λ h. sub_hi z (suc (65536 - suc g)) (omega (arith, h, l)) ∙ ap pos (omega (arith, h, l)) ∙ sym (sub_hi (g + z) 65536 h))
    (split (g + z) 65536)

ahead : (g z : ℕ) → sub_ℕ g 65536 +ℤ pos z ≡ sub_ℕ (g + z) 65536
ahead g z = ⊎_elim
    (λ l. ap (λ (y : ℤ). y +ℤ pos z) (sub_lo g 65536 l) ∙ shift_sub g z l)
    (λ l. ap (λ (y : ℤ). y +ℤ pos z) (sub_hi g 65536 l) ∙ ap pos (omega (arith, l)) ∙ sym (sub_hi (g + z) 65536 (omega (arith, l))))
    (split g 65536)

sub_fits : (g : ℕ) → g < 2 ^ 31 → SFits w32 (sub_ℕ g 65536)
sub_fits g h = ⊎_elim
    (λ l. rw (sub_lo g 65536 l) (record { sfits = omega (arith, l) }))
    (λ l. rw (sub_hi g 65536 l) (record { sfits = omega (arith, h) }))
    (split g 65536)

-- ---- a step, by what it lacks
module _ (x y g : ℕ) (near : Near x y) (held : Held x y g) where
  below : g < 117300
  below = g_lt x y g near held

  abbrev u : ℕ
  u = x * g / 65536

  abbrev v : ℕ
  v = y * g / 65536

  abbrev Q : ℕ
  Q = u * u + v * v

  abbrev b : ℤ
  b = sub_ℕ g 65536

  correction_is : correction (pos x) (pos y) b ≡ corrected (wrap32 (neg_ℤ (pos Q))) (g / 256)
  unfolding correction lacking add32
  correction_is =
      let p = grown_is x g (x_part x y g near held) near.0 held.0 below in
      let q = grown_is y g (y_part x y g near held) near.1.0 held.0 below in
      rw (p, q, back_to g, wrap_of g (omega (arith, below))) (ap (λ (z : ℤ). corrected z (g / 256)) (squares u v))

  part_small : g / 256 ≤ 511
  part_small = omega (arith, below)

  -- nothing lacking: too short to be told, or long enough
  enough : (m : ℕ) → m ≤ 2 ^ 31 → wrap32 (neg_ℤ (pos Q)) ≡ neg_ℤ (pos m) → lt_z (pos 0) (correction (pos x) (pos y) b) ≡ false
  enough m l e =
      ap (lt_z (pos 0)) (correction_is ∙ ap (λ (z : ℤ). corrected z (g / 256)) e ∙ not_long m (g / 256) l part_small)
      ∙ not_above (m / 512 * (g / 256) / 65536)

  -- what a step adds
  abbrev step : ℕ
  step = (2 ^ 32 - Q) / 512 * (g / 256) / 65536

  module _ (f : 2 ^ 31 < Q) (h : Q < 2 ^ 32) where
    step_is : correction (pos x) (pos y) b ≡ pos step
    step_is = correction_is ∙ ap (λ (z : ℤ). corrected z (g / 256)) (lacks Q f h) ∙ not_short (2 ^ 32 - Q) (g / 256) (omega (arith, f, h)) part_small (omega (arith, f, h))

    step_small : 2 ^ 33 * step ≤ (2 ^ 32 - Q) * g
    step_small =
        let i : (2 ^ 32 - Q) / 512 * 512 ≤ 2 ^ 32 - Q = omega arith in
        let j : g / 256 * 256 ≤ g = omega arith in
        omega (arith, mul-le-mul i j)

    held_again : Held x y (g + step)
    held_again =
        let D = 2 ^ 32 - Q in
        let e : Q + D ≡ 2 ^ 32 = omega (arith, h) in
        let l : 2 * D ≤ 2 ^ 32 = omega (arith, f) in
        (omega (arith, held.0), step_le u v D e l (x * (g + step)) (y * (g + step)) (part_le x g step D step_small u refl) (part_le y g step D step_small v refl))

-- ---- at rest, by the steps given
-- where b comes to rest: at a g that is held, with no correction above 0
abbrev pub Rests : ℕ → ℕ → ℕ → ℕ → Type 0
Rests x y n g = (r : ℕ) × (Held x y r × ((settled n (pos x) (pos y) (sub_ℕ g 65536) ≡ sub_ℕ r 65536) × (lt_z (pos 0) (correction (pos x) (pos y) (sub_ℕ r 65536)) ≡ false)))

module _ (x y : ℕ) (near : Near x y) where
  stays : (n g : ℕ) → Held x y g → lt_z (pos 0) (correction (pos x) (pos y) (sub_ℕ g 65536)) ≡ false → Rests x y (suc n) g
  unfolding settled
  stays n g held e = (g, (held, (rw e refl, e)))

  goes : (n g z : ℕ) → 0 < z → g + z < 117300 → correction (pos x) (pos y) (sub_ℕ g 65536) ≡ pos z → settled (suc n) (pos x) (pos y) (sub_ℕ g 65536) ≡ settled n (pos x) (pos y) (sub_ℕ (g + z) 65536)
  unfolding settled add32
  goes n g z h l e = rw (e, lt-ltb 0 z h, ahead g z, wrap_id (sub_ℕ (g + z) 65536) (sub_fits (g + z) (omega (arith, l)))) refl

  no_step : (g z : ℕ) → z ≤ 0 → correction (pos x) (pos y) (sub_ℕ g 65536) ≡ pos z → lt_z (pos 0) (correction (pos x) (pos y) (sub_ℕ g 65536)) ≡ false
  no_step g z h e = rw (e, le-ltb 0 z h) refl

  pub comes_to_rest : (n g : ℕ) → Held x y g → 117300 ≤ n + g → Rests x y n g
  comes_to_rest zero g held l = absurd (omega (arith, g_lt x y g near held, l))
  comes_to_rest (suc n) g held l = ⊎_elim
      (λ f. stays n g held (enough x y g near held (Q x y g near held) (omega (arith, f)) (wrap_neg_of (Q x y g near held) (omega (arith, f)))))
      (λ f. ⊎_elim
      (λ h. let z = step x y g near held in let e = step_is x y g near held (omega (arith, f)) h in
      ⊎_elim
      (λ some. let again = held_again x y g near held (omega (arith, f)) h in
      let rest = comes_to_rest n (g + z) again (omega (arith, l, some)) in
      (rest.0, (rest.1.0, (goes n g z some (g_lt x y (g + z) near again) e ∙ rest.1.1.0, rest.1.1.1))))
      (λ none. stays n g held (no_step g z none e))
      (split 0 z))
      (λ h. let q = squares_le x y g near held (u x y g near held) (v x y g near held) refl refl in
      stays n g held (enough x y g near held (Q x y g near held - 2 ^ 32) (omega (arith, q)) (too_long (Q x y g near held) h (omega (arith, q)))))
      (split (Q x y g near held) (2 ^ 32)))
      (split (Q x y g near held) (suc (2 ^ 31)))
