-- What the definitions say by what the calls ensure, over plain values: the functions' proofs cite these, so that no tactic has to look at what is
-- known at a place in the code. A primed value is what is read back. Assumes nothing.
use mathlib.Core.Path.{◌≡◌, refl, sym, ap, ◌∙◌}
use mathlib.Core.Bool.{Bool, true, false, not, cond, ◌||◌}
use mathlib.Core.Logic.{⊎_elim}
use Prim.Native.Nat.{ℕ, zero, suc, ◌+◌, ◌-◌, ◌*◌, ◌/◌, ◌^◌, ◌≤◌, ◌<◌}
use native.Mathlib.Omega.{arith}
use native.Mathlib.Nat.{mul-le-mul}
use borrow.Author.Tests.{lt-ltb, le-ltb, not-true, not-false}
use lib.Dec.{leb}
use lib.IntN.{ℤ, pos, negsuc, nat_abs}
use lib.Pow.{pow_mono}
use lib.Signed.{lt_z, shr_z, nat_abs-le}
use mir.Syntax.{w32}
use mir.Val.{SFits, to_z, of_z}
use mir.ValLaws.{to_z-of_z}
use Rattle.int.proofs.Ints.{eq_z_true, lt_z_zero, split}
use Rattle.int.specs.Word.{wrap32, add32, sub32, neg32, mul32, quot32, eq_z}
use Rattle.graphics.specs.declared.Vector.{Vector}
use Rattle.normalize.specs.Unit.{estimate, zeros, past, shifted, near_length, start_at, start_by, start_of, grown, lacking, correction, settled, rounds, component, aimed, aimed_from, unit_by, unit_of}
use Rattle.normalize.specs.declared.Start.{Start}

-- ---- before Newton's steps
pub first_larger : (x y : ℕ) → y < x → x + y / 2 ≡ estimate x y
unfolding estimate
first_larger x y h = rw (lt-ltb y x h) refl

pub second_larger : (x y : ℕ) → x ≤ y → y + x / 2 ≡ estimate x y
unfolding estimate
second_larger x y h = rw (le-ltb y x h) refl

-- at most half more than the larger
pub estimate_le : (x y h : ℕ) → x ≤ h → y ≤ h → estimate x y ≤ h + h / 2
estimate_le x y h f g = ⊎_elim (λ l. omega (arith, first_larger x y l)) (λ l. omega (arith, second_larger x y l)) (split y x)

pub past_ge : (z l : ℕ) → 15 ≤ past z l
unfolding past
past_ge z l = elim (leb (0xAAAAAAAA / 2 ^ z) l) as (λ (t : Bool). 15 ≤ cond t 16 15) [ true ↦ omega arith | false ↦ omega arith ]

pub places_fit : {u n : ℕ} → u ≤ 17 → n < 2 ^ 32 → n * 2 ^ u ≤ 2 ^ 49
places_fit {u} {n} hu hn = let p : 2 ^ u ≤ 2 ^ 17 = pow_mono hu in let q : n ≤ 2 ^ 32 = omega (arith, hn) in let m : n * 2 ^ u ≤ 2 ^ 32 * 2 ^ 17 = mul-le-mul q p in omega (arith, m)

pub anew : (u d l x y : ℕ) → 0 < u → estimate x y ≡ near_length u d l x y
unfolding near_length
anew u d l x y h = rw (lt-ltb 0 u h) refl

pub moved_down : (u d l x y : ℕ) → u ≤ 0 → shifted u d l ≡ near_length u d l x y
unfolding near_length
moved_down u d l x y h = rw (le-ltb 0 u h) refl

pub start_at_lem :
    (u d l x y : ℕ) {p q k : ℕ} {p' q' k' a a' b b' c c' r r' : ℤ} → p ≡ shifted u d x → q ≡ shifted u d y → k ≡ near_length u d l p q → p' ≡ pos p → q' ≡ pos q → k' ≡ pos k →
    a' ≡ a → a ≡ wrap32 p' → b' ≡ b → b ≡ wrap32 q' → c' ≡ c → c ≡ wrap32 k' → r' ≡ r → r ≡ sub32 (pos 65536) c' →
    Path Start (record { x = a'; y = b'; b = r' }) (start_at u d l x y)
unfolding start_at
start_at_lem u d l x y ep eq ek ep' eq' ek' ea' ea eb' eb ec' ec er' er = rw (er', er, ec', ec, ek', ek, ea', ea, ep', ep, eb', eb, eq', eq) refl

pub start_of_lem :
    (x y : ℕ) {l z p u d : ℕ} {r : Start} → l ≡ estimate x y → z ≡ zeros l → p ≡ past z l → u ≡ z - p → d ≡ p - z → r ≡ start_at u d l x y → r ≡ start_of x y
unfolding start_of start_by
start_of_lem x y el ez ep eu ed er = rw (er, eu, ed, ep, ez, el) refl

pub normal_axis :
    {x x' y y' p p' q q' : ℤ} {m n : Bool} → x' ≡ x → y' ≡ y → m ≡ eq_z x' (pos 0) → n ≡ eq_z y' (pos 0) → (m || n) ≡ true → p' ≡ p → p ≡ unit_by x' → q' ≡ q → q ≡ unit_by y' →
    Path Vector (record { x = p'; y = q' }) (unit_of x y)
unfolding unit_of
normal_axis {x = x} {y = y} ex ey em en e ep' ep eq' eq = let t : (eq_z x (pos 0) || eq_z y (pos 0)) ≡ true = rw (sym ex, sym ey, sym em, sym en) e in rw (t, ep', ep, eq', eq, ex, ey) refl

pub normal_aimed :
    {x x' y y' : ℤ} {m n : Bool} {k l : ℕ} {s : Start} {r : Vector} → x' ≡ x → y' ≡ y → m ≡ eq_z x' (pos 0) → n ≡ eq_z y' (pos 0) → (m || n) ≡ false → k ≡ nat_abs x' → l ≡ nat_abs y' → s ≡ start_of k l →
    r ≡ aimed_from x' y' s → r ≡ unit_of x y
unfolding unit_of
normal_aimed {x = x} {y = y} ex ey em en e ek el es er = let t : (eq_z x (pos 0) || eq_z y (pos 0)) ≡ false = rw (sym ex, sym ey, sym em, sym en) e in rw (t, er, es, ek, el, ex, ey) refl

-- a magnitude is at most 2 ^ 31
pub most : (x : ℤ) (m : ℕ) → SFits w32 x → m ≡ nat_abs (to_z w32 (of_z w32 x)) → m ≤ 2 ^ 31
most x m f e = omega (arith, e ∙ ap nat_abs (to_z-of_z w32 x f), nat_abs-le x f.sfits)

-- ---- Newton's steps
pub grow : {b b' n n' p p' s s' r r' : ℤ} → b' ≡ b → n' ≡ n → p' ≡ p → p ≡ mul32 n' b' → s' ≡ s → s ≡ shr_z p' 65536 → r' ≡ r → r ≡ add32 n' s' → r' ≡ grown b n
unfolding grown
grow eb en ep' ep es' es er' er = rw (er', er, es', es, ep', ep, eb, en) refl

pub lack :
    {u u' v v' p p' q q' s s' n n' r r' : ℤ} → u' ≡ u → v' ≡ v → p' ≡ p → p ≡ mul32 u' u' → q' ≡ q → q ≡ mul32 v' v' → s' ≡ s → s ≡ add32 p' q' → n' ≡ n → n ≡ neg32 s' →
    r' ≡ r → r ≡ quot32 n' (pos 512) → r' ≡ lacking u v
unfolding lacking
lack eu ev ep' ep eq' eq es' es en' en er' er = rw (er', er, en', en, es', es, ep', ep, eq', eq, eu, ev) refl

pub correct :
    {x x' y y' b b' s s' t t' u u' v v' l l' m m' r r' : ℤ} → x' ≡ x → y' ≡ y → b' ≡ b → s' ≡ s → s ≡ add32 (pos 65536) b' → t' ≡ t → t ≡ shr_z s' 256 → u' ≡ u → u ≡ grown b' x' →
    v' ≡ v → v ≡ grown b' y' → l' ≡ l → l ≡ lacking u' v' → m' ≡ m → m ≡ mul32 l' t' → r' ≡ r → r ≡ quot32 m' (pos 65536) → r' ≡ correction x y b
unfolding correction
correct ex ey eb es' es et' et eu' eu ev' ev el' el em' em er' er = rw (er', er, em', em, el', el, eu', eu, ev', ev, et', et, es', es, ex, ey, eb) refl

module _ {x x' y y' b b' z z' : ℤ} {t : Bool} (ex : x' ≡ x) (ey : y' ≡ y) (eb : b' ≡ b) (ez' : z' ≡ z) (ez : z ≡ correction x' y' b') (et : t ≡ lt_z (pos 0) z') where
  above : t ≡ lt_z (pos 0) (correction x y b)
  above = rw (et, ez', ez, ex, ey, eb) refl

  pub rests : (n : ℕ) → 0 < n → not t ≡ true → b' ≡ settled n x y b
  unfolding settled
  rests zero h e = absurd (omega (arith, h))
  rests (suc n) h e = let o : lt_z (pos 0) (correction x y b) ≡ false = sym above ∙ not-true t e in rw (o, eb) refl

  pub goes_on : (m n : ℕ) {r r' : ℤ} → n ≡ suc m → not t ≡ false → r' ≡ r → r ≡ add32 b' z' → settled m x y r' ≡ settled n x y b
  unfolding settled
  goes_on m n k e er' er = let o : lt_z (pos 0) (correction x y b) ≡ true = sym above ∙ not-false t e in
      rw (k, o, er', er, eb, ez', ez, ex, ey, eb) refl

pub read_back : (n : ℕ) {x x' y y' b b' : ℤ} → x' ≡ x → y' ≡ y → b' ≡ b → settled n x' y' b' ≡ settled n x y b
read_back n ex ey eb = rw (ex, ey, eb) refl

pub no_more : (n : ℕ) (x y b : ℤ) → n ≤ 0 → b ≡ settled n x y b
unfolding settled
no_more zero x y b h = refl
no_more (suc n) x y b h = absurd (omega (arith, h))

-- ---- the vector
pub below : {w w' n n' r r' : ℤ} {t : Bool} → t ≡ true → w' ≡ w → n' ≡ n → n ≡ neg32 w' → r' ≡ r → r ≡ quot32 n' (pos 4) → r' ≡ component t w
unfolding component
below et ew en' en er' er = rw (et, er', er, en', en, ew) refl

pub not_below : {w w' r r' : ℤ} {t : Bool} → t ≡ false → w' ≡ w → r' ≡ r → r ≡ quot32 w' (pos 4) → r' ≡ component t w
unfolding component
not_below et ew er' er = rw (et, er', er, ew) refl

pub aim :
    (s : Start) {b b' x x' y y' p' q' u u' v v' k k' l l' : ℤ} {m n : Bool} → b' ≡ b → x' ≡ x → y' ≡ y → p' ≡ s.x → q' ≡ s.y → m ≡ lt_z x' (pos 0) → u' ≡ u → u ≡ grown b' p' →
    k' ≡ k → k ≡ component m u' → n ≡ lt_z y' (pos 0) → v' ≡ v → v ≡ grown b' q' → l' ≡ l → l ≡ component n v' →
    Path Vector (record { x = k'; y = l' }) (aimed b x y s)
unfolding aimed
aim s eb ex ey ep eq em eu' eu ek' ek en ev' ev el' el = rw (ek', ek, em, eu', eu, ep, el', el, en, ev', ev, eq, eb, ex, ey) refl

pub aim_from :
    (s : Start) {x x' y y' p q f b b' : ℤ} {r : Vector} → x' ≡ x → y' ≡ y → p ≡ s.x → q ≡ s.y → f ≡ s.b → b' ≡ b → b ≡ settled rounds p q f → r ≡ aimed b' x' y' s → r ≡ aimed_from x y s
unfolding aimed_from
aim_from s ex ey ep eq ef eb' eb er = rw (er, eb', eb, ep, eq, ef, ex, ey) refl

pub unit_zero : (x : ℤ) → eq_z x (pos 0) ≡ true → pos 0 ≡ unit_by x
unit_zero x e = rw (eq_z_true x (pos 0) e) refl

pub unit_below : (x : ℤ) → lt_z x (pos 0) ≡ true → negsuc 16383 ≡ unit_by x
unit_below (pos n) e = let f : true ≡ false = sym e ∙ lt_z_zero (pos n) in cc f
unit_below (negsuc n) e = refl

pub unit_above : (x : ℤ) → eq_z x (pos 0) ≡ false → lt_z x (pos 0) ≡ false → pos 16384 ≡ unit_by x
unit_above (pos zero) e l = cc e
unit_above (pos (suc n)) e l = refl
unit_above (negsuc n) e l = cc l
