-- What each definition says by the tests that were made and what the calls ensure, over plain values: the functions' proofs cite these, so that no
-- tactic has to look at what is known at a place in the code. Assumes nothing.
use mathlib.Core.Path.{◌≡◌, refl, sym, ◌∙◌}
use mathlib.Core.Bool.{Bool, true, false}
use lib.IntN.{ℤ, pos}
use lib.Signed.{lt_z}
use Rattle.graphics.specs.declared.Vector.{Vector}
use Rattle.int.specs.Word.{abs32, add32, mul32, neg32, quot32, sub32}
use Rattle.math.specs.Fixed.{mul_div}
use Rattle.crossing.specs.Crossing.{cross_of, crossing_of, dot_of, from_to, meet, middle_by, moved_of}

module _ (a0 a1 b0 b1 : Vector) {da db : Vector} {d d' e e' : ℤ} {t : Bool} (eda : da ≡ from_to a0 a1) (edb : db ≡ from_to b0 b1) (ed' : d' ≡ d) (ed : d ≡ cross_of da db) (ee' : e' ≡ e) (ee : e ≡ dot_of da db) (et : t ≡ meet d' e') where
  seen : {b : Bool} → t ≡ b → meet (cross_of (from_to a0 a1) (from_to b0 b1)) (dot_of (from_to a0 a1) (from_to b0 b1)) ≡ b
  seen h = let k : t ≡ meet (cross_of (from_to a0 a1) (from_to b0 b1)) (dot_of (from_to a0 a1) (from_to b0 b1)) = rw (et, ed', ed, ee', ee, eda, edb) refl in sym k ∙ h

  pub on_line :
      {w : Vector} {v v' ax ay dx dy p p' q q' : ℤ} → t ≡ true → w ≡ from_to a0 b0 → v' ≡ v → v ≡ cross_of w db → ax ≡ a0.x → ay ≡ a0.y → dx ≡ da.x → dy ≡ da.y →
      p' ≡ p → p ≡ moved_of ax dx v' d' → q' ≡ q → q ≡ moved_of ay dy v' d' → record { x = p'; y = q' } ≡ crossing_of a0 a1 b0 b1
  unfolding crossing_of
  on_line h ew ev' ev eax eay edx edy ep' ep eq' eq = rw (seen h, ep', ep, eq', eq, eax, eay, edx, edy, ev', ev, ew, ed', ed, eda, edb) refl

  pub in_middle :
      {ax bx cx dx ay by cy dy p p' q q' : ℤ} → t ≡ false → ax ≡ a0.x → bx ≡ a1.x → cx ≡ b0.x → dx ≡ b1.x → ay ≡ a0.y → by ≡ a1.y → cy ≡ b0.y → dy ≡ b1.y →
      p' ≡ p → p ≡ middle_by ax bx cx dx → q' ≡ q → q ≡ middle_by ay by cy dy → record { x = p'; y = q' } ≡ crossing_of a0 a1 b0 b1
  unfolding crossing_of
  in_middle h eax ebx ecx edx eay eby ecy edy ep' ep eq' eq = rw (seen h, ep', ep, eq', eq, eax, ebx, ecx, edx, eay, eby, ecy, edy) refl

pub from_to_lem : (p q : Vector) {px py qx qy d d' e e' : ℤ} → px ≡ p.x → py ≡ p.y → qx ≡ q.x → qy ≡ q.y → d' ≡ d → d ≡ sub32 qx px → e' ≡ e → e ≡ sub32 qy py → record { x = d'; y = e' } ≡ from_to p q
from_to_lem p q epx epy eqx eqy ed' ed ee' ee = rw (ed', ed, ee', ee, epx, epy, eqx, eqy) refl

module _ (u v : Vector) {ux uy vx vy p p' q q' r r' : ℤ} (eux : ux ≡ u.x) (euy : uy ≡ u.y) (evx : vx ≡ v.x) (evy : vy ≡ v.y) where
  pub cross : {n n' : ℤ} → n' ≡ n → n ≡ neg32 vy → p' ≡ p → p ≡ mul_div ux n' (pos 0x40) → q' ≡ q → q ≡ mul_div uy vx (pos 0x40) → r' ≡ r → r ≡ add32 p' q' → r' ≡ cross_of u v
  unfolding cross_of
  cross en' en ep' ep eq' eq er' er = rw (er', er, ep', ep, eq', eq, en', en, eux, euy, evx, evy) refl

  pub dot : p' ≡ p → p ≡ mul_div ux vx (pos 0x40) → q' ≡ q → q ≡ mul_div uy vy (pos 0x40) → r' ≡ r → r ≡ add32 p' q' → r' ≡ dot_of u v
  unfolding dot_of
  dot ep' ep eq' eq er' er = rw (er', er, ep', ep, eq', eq, eux, euy, evx, evy) refl

pub does_meet : {d d' e e' a a' b b' m m' : ℤ} {t : Bool} → d' ≡ d → e' ≡ e → a' ≡ a → a ≡ abs32 e' → b' ≡ b → b ≡ abs32 d' → m' ≡ m → m ≡ mul32 b' (pos 19) → t ≡ lt_z a' m' → t ≡ meet d e
unfolding meet
does_meet ed ee ea' ea eb' eb em' em et = rw (et, em', em, ea', ea, eb', eb, ed, ee) refl

pub moved : {at at' d d' v v' k k' m m' r r' : ℤ} → at' ≡ at → d' ≡ d → v' ≡ v → k' ≡ k → m' ≡ m → m ≡ mul_div v' d' k' → r' ≡ r → r ≡ add32 at' m' → r' ≡ moved_of at d v k
unfolding moved_of
moved eat ed ev ek em' em er' er = rw (er', er, em', em, eat, ed, ev, ek) refl

pub middle : {a a' b b' c c' d d' p p' q q' s s' r r' : ℤ} → a' ≡ a → b' ≡ b → c' ≡ c → d' ≡ d → p' ≡ p → p ≡ add32 a' b' → q' ≡ q → q ≡ add32 p' c' → s' ≡ s → s ≡ add32 q' d' → r' ≡ r → r ≡ quot32 s' (pos 4) → r' ≡ middle_by a b c d
unfolding middle_by
middle ea eb ec ed ep' ep eq' eq es' es er' er = rw (er', er, es', es, eq', eq, ep', ep, ea, eb, ec, ed) refl
