-- The axis that points move along by the tests of both vectors, and the step and the move on each, over plain values. Assumes nothing.
use Prim.Native.Nat.{ℕ}
use mathlib.Core.Bool.{Bool, true, false, and-true, cond, not, ◌&&◌}
use mathlib.Core.Path.{◌≡◌, refl}
use lib.IntN.{ℤ, pos}
use Rattle.flags.specs.declared.CoordAxis.{CoordAxis}
use Rattle.flags.specs.declared.CoordAxis.TheVariants.{Both, X, Y}
use Rattle.graphics.specs.State.{past_both_iups, unit}
use Rattle.graphics.specs.declared.Facts.{Facts}
use Rattle.graphics.specs.declared.Vector.{Vector}
use Rattle.graphics.specs.declared.Vectors.{Vectors}
use Rattle.int.specs.Word.{eq_z}
use Rattle.math.specs.Fixed.{mul_div}
use Rattle.projection.specs.Projection.{axis_of, derived_of, fdotp_of, freedom_axis_by, freedom_axis_of, raw_fdotp}
use Rattle.projection.specs.declared.Derived.{Derived}
use Rattle.moves.specs.Move.{bits_for, held_back, is_slanted, move_of, step_along, step_by}
use Rattle.moves.specs.declared.Move.{Move}
use Rattle.moves.proofs.Cases.{vector, vectors}

-- ---- the axis
either_way : (t : Bool) → Both ≡ cond t Both Both
either_way true = refl
either_way false = refl

module _ (v : Vectors) where
  pub on_x : eq_z v.freedom.x unit ≡ true → eq_z v.projection.x unit ≡ true → X ≡ freedom_axis_of v
  unfolding freedom_axis_by raw_fdotp axis_of
  on_x x p = rw (x, p) refl

  pub apart_from_x : eq_z v.freedom.x unit ≡ true → eq_z v.projection.x unit ≡ false → Both ≡ freedom_axis_of v
  unfolding freedom_axis_by raw_fdotp axis_of
  apart_from_x x p = rw (x, p) refl

  pub on_y : eq_z v.freedom.x unit ≡ false → eq_z v.freedom.y unit ≡ true → eq_z v.projection.y unit ≡ true → Y ≡ freedom_axis_of v
  unfolding freedom_axis_by raw_fdotp axis_of
  on_y x y p = rw (x, y, p) refl

  pub apart_from_y : eq_z v.freedom.x unit ≡ false → eq_z v.freedom.y unit ≡ true → eq_z v.projection.y unit ≡ false → Both ≡ freedom_axis_of v
  unfolding freedom_axis_by raw_fdotp axis_of
  apart_from_y x y p = rw (x, y, p) refl

  -- whatever fdotp is
  pub on_neither : eq_z v.freedom.x unit ≡ false → eq_z v.freedom.y unit ≡ false → Both ≡ freedom_axis_of v
  unfolding freedom_axis_by axis_of
  on_neither x y = rw (x, y) (either_way (eq_z (raw_fdotp v.projection v.freedom) unit))

-- ---- the step
pub x_step : (f : Vector) (fdotp d : ℤ) {d' : ℤ} → d' ≡ d → record { moves_x = true; dx = d'; moves_y = false; dy = pos 0; touch = 2 } ≡ step_by f fdotp d X
unfolding step_by
x_step f fdotp d e = rw e refl

pub y_step : (f : Vector) (fdotp d : ℤ) {d' : ℤ} → d' ≡ d → record { moves_x = false; dx = pos 0; moves_y = true; dy = d'; touch = 4 } ≡ step_by f fdotp d Y
unfolding step_by
y_step f fdotp d e = rw e refl

-- a primed number is what is read back
pub slanted_step :
    {px py fx fy d px' py' fx' fy' d' fdotp mx my mx' my' : ℤ} {g : Derived} {ex ey : Bool} {t : ℕ} → px' ≡ px → py' ≡ py → fx' ≡ fx → fy' ≡ fy → d' ≡ d → g ≡ derived_of (vectors px' py' fx' fy') → fdotp ≡ g.fdotp →
    ex ≡ eq_z fx' (pos 0) → ey ≡ eq_z fy' (pos 0) → mx' ≡ mx → mx ≡ mul_div d' fx' fdotp → my' ≡ my → my ≡ mul_div d' fy' fdotp → t ≡ bits_for (not ex) (not ey)
    → record { moves_x = not ex; dx = mx'; moves_y = not ey; dy = my'; touch = t } ≡ step_by (vector fx fy) (fdotp_of (vectors px py fx fy)) d Both
unfolding step_by
slanted_step epx epy efx efy ed eg ep eex eey emx' emx emy' emy et = rw (et, emx', emx, emy', emy, eex, eey, ep, eg, epx, epy, efx, efy, ed) refl

module _ (v : Vectors) (d : ℤ) where
  pub straight_step : {axis : CoordAxis} {m : Move} {d' : ℤ} → axis ≡ freedom_axis_of v → d' ≡ d → m ≡ step_by v.freedom (fdotp_of v) d' axis → m ≡ step_along v d
  straight_step e ed em = rw (em, ed, e) refl

  -- by the numbers of both vectors, whatever the dual vector is
  pub slanted_along :
      {m : Move} {px py fx fy d' : ℤ} → Both ≡ freedom_axis_of v → px ≡ v.projection.x → py ≡ v.projection.y → fx ≡ v.freedom.x → fy ≡ v.freedom.y → d' ≡ d →
      m ≡ step_by (vector fx fy) (fdotp_of (vectors px py fx fy)) d' Both → m ≡ step_along v d
  slanted_along e epx epy efx efy ed em = rw (em, epx, epy, efx, efy, ed, ← e) refl

  -- ---- the move
  module _ (f : Facts) {m r : Move} {past : Bool} (em : m ≡ step_along v d) (ep : past ≡ past_both_iups f) where
    pub straight_move : is_slanted (freedom_axis_of v) ≡ false → r ≡ held_back m f.backward_compatibility past → r ≡ move_of v f d
    unfolding move_of
    straight_move e er = rw (er, em, ep, e, and-true f.backward_compatibility, and-true (past_both_iups f)) refl

    pub slanted_move : {level : Bool} → Both ≡ freedom_axis_of v → level ≡ eq_z v.projection.y (pos 0) → r ≡ held_back m (f.backward_compatibility && not level) (past && not level) → r ≡ move_of v f d
    unfolding move_of
    slanted_move e el er = rw (er, em, ep, el, ← e) refl
