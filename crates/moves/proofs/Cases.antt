-- What each definition says in each of its cases, over plain lists: the functions' proofs cite these, and each is one or two tests rewritten.
-- Assumes nothing.
use Rattle.std.specs.Prelude.{Result, Ok, Err}
use Rattle.answer.specs.declared.Refusal.{Refusal}
use mathlib.Core.Path.{◌≡◌, refl, sym, ap, ◌∙◌}
use mathlib.Core.Bool.{Bool, true, false, not, ◌&&◌}
use mathlib.Core.List.{List}
use Prim.Native.Nat.{ℕ, ◌≤◌, ◌<◌}
use borrow.Author.Tests.{lt-ltb, le-ltb}
use lib.IntN.{ℤ, pos}
use lib.ListN.{length, get_or, set}
use Rattle.answer.specs.declared.Refusal.TheVariants.{Point}
use Rattle.graphics.specs.State.{past_both_iups}
use Rattle.graphics.specs.declared.Facts.{Facts}
use Rattle.graphics.specs.declared.Vector.{Vector}
use Rattle.graphics.specs.declared.Vectors.{Vectors}
use Rattle.int.specs.Word.{add32, eq_z}
use Rattle.math.specs.Fixed.{mul_div}
use Rattle.moves.specs.Apply.{shifted, shift_of, moved, apply_of}
use Rattle.moves.specs.Displacement.{displacement_of, displacement, displaced_from, displaced_at}
use Rattle.moves.specs.Move.{bits_for, step_along, held_back, untouching, original_move_of, zp2_move_of, moved_at}
use Rattle.moves.specs.declared.Displacement.{Displacement}
use Rattle.moves.specs.declared.Move.{Move}
use Rattle.moves.specs.declared.Reference.{Reference}
use Rattle.projection.specs.Projection.{derived_of, project_of}
use Rattle.projection.specs.declared.Derived.{Derived}
use Rattle.zone.specs.Zone.{fetch_of, or_at}

-- ---- one axis
-- a sum, as its parts were read
pub sum_read : {a a' b b' r r' : ℤ} → r' ≡ r → r ≡ add32 a' b' → a' ≡ a → b' ≡ b → r' ≡ add32 a b
sum_read er' er ea eb = rw (er', er, ea, eb) refl

module _ (l : List ℤ) (at : ℕ) (by : ℤ) {moves : Bool} where
  pub not_moved : moves ≡ false → l ≡ moved_at l at by moves
  not_moved e = rw e

  pub moved_inside : moves ≡ true → {z : ℤ} → z ≡ add32 (get_or l at (pos 0)) by → set l at z ≡ moved_at l at by moves
  moved_inside e q = rw e (ap (set l at) q)

-- ---- one zone
module _ (m : Move) (at : ℕ) (xs ys : List ℤ) where
  pub shift_out : length xs ≤ at → shifted (Err (Point at)) xs ys ≡ shift_of m at xs ys
  unfolding shift_of
  shift_out h = rw (le-ltb at (length xs) h)

  pub shift_in : at < length xs → {xs2 ys2 : List ℤ} → xs2 ≡ moved_at xs at m.dx m.moves_x → ys2 ≡ moved_at ys at m.dy m.moves_y → shifted (Ok tt) xs2 ys2 ≡ shift_of m at xs ys
  unfolding shift_of
  shift_in h p q = rw (lt-ltb at (length xs) h, ← p, ← q)

  pub apply_out : (flags : List ℕ) → length xs ≤ at → moved (Err (Point at)) xs ys flags ≡ apply_of m at xs ys flags
  unfolding apply_of
  apply_out flags h = rw (le-ltb at (length xs) h)

  pub apply_in : (flags : List ℕ) → at < length xs → {xs2 ys2 : List ℤ} {flags2 : List ℕ} → xs2 ≡ moved_at xs at m.dx m.moves_x → ys2 ≡ moved_at ys at m.dy m.moves_y → flags2 ≡ or_at flags at m.touch → moved (Ok tt) xs2 ys2 flags2 ≡ apply_of m at xs ys flags
  unfolding apply_of
  apply_in flags h p q r = rw (lt-ltb at (length xs) h, ← p, ← q, ← r)

-- ---- the reference's two places
module _ (v : Vectors) (p : Reference) (ox oy cx cy : List ℤ) where
  pub current_is : {g h : Result Vector Refusal} → g ≡ fetch_of cx cy p.at → g ≡ h → displaced_from v p (fetch_of ox oy p.at) h ≡ displaced_at v p ox oy cx cy
  unfolding displaced_at
  current_is e q = ap (displaced_from v p (fetch_of ox oy p.at)) (sym q ∙ e)

  pub both_are : {g h k l : Result Vector Refusal} → g ≡ fetch_of cx cy p.at → g ≡ h → k ≡ fetch_of ox oy p.at → k ≡ l → displaced_from v p l h ≡ displaced_at v p ox oy cx cy
  both_are {h = h} e q f r = ap (λ (o : Result Vector Refusal). displaced_from v p o h) (sym r ∙ f) ∙ current_is e q

-- ---- what a call works out from `derive` and its kin
abbrev untouched_by : Move → ℤ → ℤ → Move
untouched_by m x y = record { moves_x = m.moves_x; dx = x; moves_y = m.moves_y; dy = y; touch = 0 }

pub original_from : (v : Vectors) (distance : ℤ) {m : Move} {x y : ℤ} → m ≡ step_along v distance → x ≡ m.dx → y ≡ m.dy → untouched_by m x y ≡ original_move_of v distance
unfolding original_move_of
original_from v distance e p q = rw (p, q) (ap untouching e)

pub zp2_from :
    (v : Vectors) (f : Facts) (dx dy : ℤ) (touches : Bool) {fx fy dx' dy' : ℤ} {ex ey past : Bool} {t : ℕ} {m : Move} → fx ≡ v.freedom.x → fy ≡ v.freedom.y → dx' ≡ dx → dy' ≡ dy →
    ex ≡ eq_z fx (pos 0) → ey ≡ eq_z fy (pos 0) → t ≡ bits_for (not ex && touches) (not ey && touches) → past ≡ past_both_iups f →
    m ≡ held_back (record { moves_x = not ex; dx = dx'; moves_y = not ey; dy = dy'; touch = t }) f.backward_compatibility past → m ≡ zp2_move_of v f dx dy touches
unfolding zp2_move_of
zp2_from v f dx dy touches efx efy edx edy eex eey et ep em = rw (em, et, ep, eex, eey, efx, efy, edx, edy) refl

abbrev pub vector : ℤ → ℤ → Vector
vector x y = record { x = x; y = y }

abbrev pub vectors : ℤ → ℤ → ℤ → ℤ → Vectors
vectors px py fx fy = record { projection = vector px py; dual = vector px py; freedom = vector fx fy }

pub displacement_from :
    {px py fx fy cx cy ox oy px' py' fx' fy' cx' cy' ox' oy' : ℤ} {d : Derived} {fdotp distance x y : ℤ} → px' ≡ px → py' ≡ py → fx' ≡ fx → fy' ≡ fy → cx' ≡ cx → cy' ≡ cy → ox' ≡ ox → oy' ≡ oy →
    d ≡ derived_of (vectors px' py' fx' fy') → fdotp ≡ d.fdotp → distance ≡ project_of (vectors px' py' fx' fy') (vector cx' cy') (vector ox' oy') → x ≡ mul_div distance fx' fdotp → y ≡ mul_div distance fy' fdotp →
    vector x y ≡ displacement_of (vectors px py fx fy) (vector cx cy) (vector ox oy)
unfolding displacement_of
displacement_from epx epy efx efy ecx ecy eox eoy e p q h k = rw (h, k, q, p, e, epx, epy, efx, efy, ecx, ecy, eox, eoy)

-- by the numbers of vectors and places, whatever the dual vector is
pub displacement_is :
    (v : Vectors) (a b : Vector) {px py fx fy cx cy ox oy : ℤ} {d : Vector} → px ≡ v.projection.x → py ≡ v.projection.y → fx ≡ v.freedom.x → fy ≡ v.freedom.y → cx ≡ a.x → cy ≡ a.y → ox ≡ b.x → oy ≡ b.y →
    d ≡ displacement_of (vectors px py fx fy) (vector cx cy) (vector ox oy) → d ≡ displacement_of v a b
unfolding displacement_of
displacement_is v a b epx epy efx efy ecx ecy eox eoy e = e ∙ rw (epx, epy, efx, efy, ecx, ecy, eox, eoy) refl

pub displaced_by : (p : Reference) {d m : Vector} {x y : ℤ} → d ≡ m → x ≡ d.x → y ≡ d.y → ◌≡◌ {A = Displacement} (record { zone = p.zone; at = p.at; dx = x; dy = y }) (displacement p m)
displaced_by p e f g = rw (f, g) (ap (displacement p) e)
