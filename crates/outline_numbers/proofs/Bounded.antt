-- Edges grown by comparing floats are the floats of edges grown by comparing numbers; and the number of an edge is the least or the greatest of the points'. Assumes nothing.
use Rattle.std.specs.Prelude.{Some}
use mathlib.Core.Path.{◌≡◌, refl, ap, ◌∙◌, subst}
use Prim.Native.Nat.{ℕ, suc, ◌<◌, ◌≤◌}
use native.Mathlib.Nat.{le_trans as leq-trans, le_of_lt}
use mathlib.Core.Bool.{Bool, true, false, cond, not, ◌&&◌}
use mathlib.Core.List.{List, [], ◌∷◌, ◌++◌}
use mathlib.Core.Logic.{◌⊎◌, inl, inr}
use lib.Dec.{T, leb→le, le→leb, ltb→lt}
use lib.IntN.{ℤ, pos, negsuc}
use lib.Signed.{lt_z, le_z, lt_z_no, ≤ℤ_refl}
use lib.Ieee.{Float, lt}
use Rattle.outline_numbers.specs.Fraction.{of128}
use Rattle.outline_numbers.specs.Drawing.{Box, Extent, none, box, near, is_near, step_of, around_by, drawn_by, bounds_of, with_point, with_spots, spots_of, spot, lesser_z, greater_z, Every, Among, Edge, Boxed, at_least, across, upward, handed_out, extent_of}
use Rattle.outline_numbers.specs.declared.Spot.{Spot}
use Rattle.outline_numbers.specs.declared.Stroke.{Stroke}
use Rattle.outline_numbers.specs.declared.Stroke.TheVariants.{Move, Line, Curve, Close}
use Rattle.outline_numbers.proofs.Exact.{lt_128}
use Rattle.outline_numbers.proofs.Near.{left_of, right_of, near_small}

-- ---- floats as their numbers
abbrev Near : ℤ → Type 0
Near z = near z ≡ true

-- every edge is near
abbrev pub Within : Extent → Type 0
Within none = Unit {0}
Within (box k) = Near k.left × Near k.bottom × Near k.right × Near k.top

through : (t : Bool) (a b : ℤ) → cond t (of128 a) (of128 b) ≡ of128 (cond t a b)
through true a b = refl
through false a b = refl

lesser_128 : (a b : ℤ) → Near a → Near b → cond (lt (of128 a) (of128 b)) (of128 a) (of128 b) ≡ of128 (lesser_z a b)
lesser_128 a b h k = ap (λ (t : Bool). cond t (of128 a) (of128 b)) (lt_128 a b (near_small a h) (near_small b k)) ∙ through (lt_z a b) a b

greater_128 : (a b : ℤ) → Near a → Near b → cond (lt (of128 b) (of128 a)) (of128 a) (of128 b) ≡ of128 (greater_z a b)
greater_128 a b h k = ap (λ (t : Bool). cond t (of128 a) (of128 b)) (lt_128 b a (near_small b k) (near_small a h)) ∙ through (lt_z b a) a b

either : (t : Bool) (a b : ℤ) → Near a → Near b → Near (cond t a b)
either true a b h k = h
either false a b h k = k

within_point : (x y : ℤ) (k : Extent) → Near x → Near y → Within k → Within (with_point x y k)
within_point x y none h g w = (h, g, h, g)
within_point x y (box k) h g w = (
  either (lt_z x k.left) x k.left h w.0,
  either (lt_z y k.bottom) y k.bottom g w.1,
  either (lt_z k.right x) x k.right h w.2,
  either (lt_z k.top y) y k.top g w.3,
)

point_added : (x y : ℤ) (k : Extent) → Near x → Near y → Within k → around_by (of128 x) (of128 y) (bounds_of k) ≡ bounds_of (with_point x y k)
point_added x y none h g w = refl
point_added x y (box k) h g w =
    let a = lesser_128 x k.left h w.0 in
    let b = lesser_128 y k.bottom g w.1 in
    let c = greater_128 x k.right h w.2 in
    let d = greater_128 y k.top g w.3 in
    λ i. Some (record { left = a i; bottom = b i; right = c i; top = d i })

-- ---- a step that is drawn
-- the numbers of a near curve
module _ (cx cy x y : ℤ) (e : near cx && near cy && near x && near y ≡ true) where
  before_y : (near cx && near cy) && near x ≡ true
  before_y = left_of ((near cx && near cy) && near x) (near y) e

  control : near cx && near cy ≡ true
  control = left_of (near cx && near cy) (near x) before_y

pub step_within : (k : Extent) (d : Stroke) → is_near d ≡ true → Within k → Within (with_spots k (spots_of d))
step_within k (Move x y) e w = within_point x y k (left_of (near x) (near y) e) (right_of (near x) (near y) e) w
step_within k (Line x y) e w = within_point x y k (left_of (near x) (near y) e) (right_of (near x) (near y) e) w
step_within k (Curve cx cy x y) e w =
    within_point x y (with_point cx cy k) (right_of (near cx && near cy) (near x) (before_y cx cy x y e)) (right_of ((near cx && near cy) && near x) (near y) e)
    (within_point cx cy k (left_of (near cx) (near cy) (control cx cy x y e)) (right_of (near cx) (near cy) (control cx cy x y e)) w)
step_within k Close e w = w

pub step_added : (k : Extent) (d : Stroke) → is_near d ≡ true → Within k → drawn_by (bounds_of k) (step_of d) ≡ bounds_of (with_spots k (spots_of d))
step_added k (Move x y) e w = point_added x y k (left_of (near x) (near y) e) (right_of (near x) (near y) e) w
step_added k (Line x y) e w = point_added x y k (left_of (near x) (near y) e) (right_of (near x) (near y) e) w
step_added k (Curve cx cy x y) e w =
    let hx = left_of (near cx) (near cy) (control cx cy x y e) in
    let hy = right_of (near cx) (near cy) (control cx cy x y e) in
    ap (around_by (of128 x) (of128 y)) (point_added cx cy k hx hy w)
    ∙ point_added x y (with_point cx cy k) (right_of (near cx && near cy) (near x) (before_y cx cy x y e)) (right_of ((near cx && near cy) && near x) (near y) e) (within_point cx cy k hx hy w)
step_added k Close e w = refl

-- points one after the other
pub spots_joined : (k : Extent) (l m : List Spot) → with_spots k (l ++ m) ≡ with_spots (with_spots k l) m
spots_joined k [] m = refl
spots_joined k (s ∷ l) m = spots_joined (with_point s.x s.y k) l m

-- ---- the number of an edge is the least, or the greatest, of the points' numbers
le_trans : (a b c : ℤ) → T (le_z a b) → T (le_z b c) → T (le_z a c)
le_trans (pos a) (pos b) (pos c) h k = le→leb a c (leq-trans (leb→le a b h) (leb→le b c k))
le_trans (pos a) (pos b) (negsuc c) h k = absurd k
le_trans (pos a) (negsuc b) c h k = absurd h
le_trans (negsuc a) (pos b) (pos c) h k = tt
le_trans (negsuc a) (pos b) (negsuc c) h k = absurd k
le_trans (negsuc a) (negsuc b) (pos c) h k = tt
le_trans (negsuc a) (negsuc b) (negsuc c) h k = le→leb c a (leq-trans (leb→le c b k) (leb→le b a h))

lt_le : (a b : ℤ) → T (lt_z a b) → T (le_z a b)
lt_le (pos a) (pos b) h = le→leb a b (le_of_lt (ltb→lt a b h))
lt_le (pos a) (negsuc b) h = absurd h
lt_le (negsuc a) (pos b) h = tt
lt_le (negsuc a) (negsuc b) h = le→leb b a (le_of_lt (ltb→lt b a h))

le_same : (z : ℤ) → T (le_z z z)
le_same z = (≤ℤ_refl z).le

-- z, or a number of the list that stands before it, by `f`
abbrev chosen : (ℤ → ℤ → Bool) → ℤ → List ℤ → ℤ
chosen f z [] = z
chosen f z (x ∷ l) = chosen f (cond (f x z) x z) l

module _ (R f : ℤ → ℤ → Bool) (same : (z : ℤ) → T (R z z)) (trans : (a b c : ℤ) → T (R a b) → T (R b c) → T (R a c)) (yes : (x z : ℤ) → T (f x z) → T (R x z)) (no : (x z : ℤ) → T (not (f x z)) → T (R z x)) where
  one_more : (x z r : ℤ) (l : List ℤ) (t : Bool) → (T t → T (R x z)) → (T (not t) → T (R z x)) → Edge R (cond t x z ∷ l) r → Edge R (z ∷ x ∷ l) r
  one_more x z r l true y n e = record {
    one = elim e.one [ inl p ↦ inr (inl p) | inr m ↦ inr (inr m) ];
    each = (trans r x z e.each.0 (y tt), e.each);
  }
  one_more x z r l false y n e = record {
    one = elim e.one [ inl p ↦ inl p | inr m ↦ inr (inr m) ];
    each = (e.each.0, (trans r z x e.each.0 (n tt), e.each.1));
  }

  edge : (z : ℤ) (l : List ℤ) → Edge R (z ∷ l) (chosen f z l)
  edge z [] = record { one = inl refl; each = (same z, tt) }
  edge z (x ∷ l) = one_more x z (chosen f z (x ∷ l)) l (f x z) (yes x z) (no x z) (edge (cond (f x z) x z) l)

least : (z : ℤ) (l : List ℤ) → Edge le_z (z ∷ l) (chosen lt_z z l)
least = edge le_z lt_z le_same le_trans lt_le (λ x z t. (lt_z_no {a = x} {b = z} t).le)

greatest : (z : ℤ) (l : List ℤ) → Edge at_least (z ∷ l) (chosen (λ x y. lt_z y x) z l)
greatest = edge at_least (λ x y. lt_z y x) le_same (λ a b c h k. le_trans c b a k h) (λ x z t. lt_le z x t) (λ x z t. (lt_z_no {a = z} {b = x} t).le)

abbrev box_over : Box → List Spot → Box
box_over k l = record {
  left = chosen lt_z k.left (across l);
  bottom = chosen lt_z k.bottom (upward l);
  right = chosen (λ x y. lt_z y x) k.right (across l);
  top = chosen (λ x y. lt_z y x) k.top (upward l);
}

box_is : (k : Box) (l : List Spot) → with_spots (box k) l ≡ box (box_over k l)
box_is k [] = refl
box_is k (s ∷ l) = box_is (record { left = lesser_z s.x k.left; bottom = lesser_z s.y k.bottom; right = greater_z s.x k.right; top = greater_z s.y k.top }) l

-- the box of one or more points: each edge is one of their numbers, and none lies beyond it
pub boxed : (s : Spot) (l : List Spot) → (k : Box) × (with_spots none (s ∷ l) ≡ box k) × Boxed (s ∷ l) k
boxed s l =
    let first : Box = record { left = s.x; bottom = s.y; right = s.x; top = s.y } in
    (box_over first l, box_is first l, record { left = least s.x (across l); bottom = least s.y (upward l); right = greatest s.x (across l); top = greatest s.y (upward l) })
