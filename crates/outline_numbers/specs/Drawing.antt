-- Drawing steps and the box around them, in 128ths of a pixel and as floats: document 02, K13 ("move, line, curve and close, each with its pixel numbers as floats"; "the four edges of
-- the box, as floats, over all points handed out, controls included"). Assumes nothing.
use Rattle.std.specs.Prelude.{ℕ, Bool, cond, true, ◌&&◌, List, [], ◌∷◌, ◌++◌, map, ◌⊎◌, ◌≡◌, T, ℤ, pos, negsuc, Float, Option, Some, None}
use Rattle.std.specs.Int.Signed.{lt_z, le_z}
use Rattle.std.specs.Float.Ieee.{lt}
use Rattle.outline_numbers.specs.Fraction.{of128}
use Rattle.outline_numbers.specs.declared.Stroke.{Stroke}
use Rattle.outline_numbers.specs.declared.Stroke.TheVariants.{Move, Line, Curve, Close}
use Rattle.outline_numbers.specs.declared.Edges.{Edges}
use Rattle.outline_numbers.specs.declared.Spot.{Spot}
use Rattle.outline_numbers.specs.declared.Step.{Step}
use Rattle.outline_numbers.specs.declared.Step.TheVariants.{Move as Moves, Line as Lines, Curve as Curves, Close as Closes}

-- ---- a step
-- from -2 ^ 23 to 2 ^ 23, so that every number of 128ths is an exact f32
abbrev pub near : ℤ → Bool
near z = le_z (negsuc 8388607) z && le_z z (pos 8388608)

abbrev pub is_near : Stroke → Bool
is_near (Move x y) = near x && near y
is_near (Line x y) = near x && near y
is_near (Curve cx cy x y) = near cx && near cy && near x && near y
is_near Close = true

-- in pixels
abbrev pub step_of : Stroke → Step
step_of (Move x y) = Moves (of128 x) (of128 y)
step_of (Line x y) = Lines (of128 x) (of128 y)
step_of (Curve cx cy x y) = Curves (of128 cx) (of128 cy) (of128 x) (of128 y)
step_of Close = Closes

-- ---- the box, over floats
abbrev pub grown_by : Edges → Float → Float → Edges
grown_by e x y = record {
  left = cond (lt x e.left) x e.left;
  bottom = cond (lt y e.bottom) y e.bottom;
  right = cond (lt e.right x) x e.right;
  top = cond (lt e.top y) y e.top;
}

abbrev pub around_by : Float → Float → Option Edges → Option Edges
around_by x y None = Some (record { left = x; bottom = y; right = x; top = y })
around_by x y (Some e) = Some (grown_by e x y)

abbrev pub drawn_by : Option Edges → Step → Option Edges
drawn_by b (Moves x y) = around_by x y b
drawn_by b (Lines x y) = around_by x y b
drawn_by b (Curves cx cy x y) = around_by x y (around_by cx cy b)
drawn_by b Closes = b

-- ---- the box, over numbers of 128ths
abbrev pub spot : ℤ → ℤ → Spot
spot x y = record { x = x; y = y }

pub record Box : Type 0 where
  pub left : ℤ
  pub bottom : ℤ
  pub right : ℤ
  pub top : ℤ

pub data Extent : Type 0 where
  none : Extent
  box : Box → Extent

abbrev pub lesser_z : ℤ → ℤ → ℤ
lesser_z a b = cond (lt_z a b) a b

abbrev pub greater_z : ℤ → ℤ → ℤ
greater_z a b = cond (lt_z b a) a b

abbrev pub with_point : ℤ → ℤ → Extent → Extent
with_point x y none = box (record { left = x; bottom = y; right = x; top = y })
with_point x y (box k) = box (record { left = lesser_z x k.left; bottom = lesser_z y k.bottom; right = greater_z x k.right; top = greater_z y k.top })

-- the points that a step hands out: a curve's control too, and none by a close
abbrev pub spots_of : Stroke → List Spot
spots_of (Move x y) = spot x y ∷ []
spots_of (Line x y) = spot x y ∷ []
spots_of (Curve cx cy x y) = spot cx cy ∷ spot x y ∷ []
spots_of Close = []

abbrev pub handed_out : List Stroke → List Spot
handed_out [] = []
handed_out (d ∷ ds) = spots_of d ++ handed_out ds

abbrev pub with_spots : Extent → List Spot → Extent
with_spots k [] = k
with_spots k (s ∷ l) = with_spots (with_point s.x s.y k) l

-- around all that was drawn
abbrev pub extent_of : List Stroke → Extent
extent_of ds = with_spots none (handed_out ds)

-- in pixels
abbrev pub edges_of : Box → Edges
edges_of k = record { left = of128 k.left; bottom = of128 k.bottom; right = of128 k.right; top = of128 k.top }

abbrev pub bounds_of : Extent → Option Edges
bounds_of none = None
bounds_of (box k) = Some (edges_of k)

-- ---- what the box of some points is: each edge is one of their numbers, and none lies beyond it
-- R z x: z is not beyond x
abbrev pub Every : (ℤ → ℤ → Bool) → ℤ → List ℤ → Type 0
Every R z [] = Unit {0}
Every R z (x ∷ l) = T (R z x) × Every R z l

abbrev pub Among : ℤ → List ℤ → Type 0
Among z [] = ⊥
Among z (x ∷ l) = (z ≡ x) ⊎ Among z l

pub record Edge (R : ℤ → ℤ → Bool) (l : List ℤ) (z : ℤ) : Type 0 where
  pub one : Among z l
  pub each : Every R z l

abbrev pub at_least : ℤ → ℤ → Bool
at_least z x = le_z x z

abbrev pub across : List Spot → List ℤ
across l = map (λ s. s.x) l

abbrev pub upward : List Spot → List ℤ
upward l = map (λ s. s.y) l

pub record Boxed (l : List Spot) (k : Box) : Type 0 where
  pub left : Edge le_z (across l) k.left
  pub bottom : Edge le_z (upward l) k.bottom
  pub right : Edge at_least (across l) k.right
  pub top : Edge at_least (upward l) k.top
