-- IUP over a glyph, on one axis: FreeType 2.13.3, ttinterp.c (Ins_IUP's walk over the contours). The contours' ends rise and lie below the number of points: every entry asks it (document 02,
-- K8). Assumes nothing.
use Rattle.answer.specs.declared.Refusal.{Refusal}
use Rattle.std.specs.Prelude.{ℕ, suc, ◌-◌, Bool, cond, ◌&&◌, List, [], ◌∷◌, ◌++◌, leb, eqb, ℤ, length, take, drop, ⊤, Result, Ok, Err}
use Rattle.answer.specs.declared.Refusal.TheVariants.{Ends, Sizes}
use Rattle.contour_ends.specs.Ends.{ends_rise}
use Rattle.limits.specs.Limits.{most_points, most_contours}
use Rattle.flags.specs.Axis.{touch_bit}
use Rattle.flags.specs.declared.Axis.{Axis}
use Rattle.iup.specs.Contour.{current_of, contour_of, points_of}
use Rattle.iup.specs.Contour.{Point as Dot}

-- the contours one after the other, each from where the last one ended; the points are those from the walk's place on, and points after the last contour stay
unfoldable pub walk_of : ℕ → List ℕ → List Dot → List ℤ
walk_of at [] ps = current_of ps
walk_of at (end ∷ ends) ps = contour_of (take (suc end - at) ps) ++ walk_of (suc end) ends (drop (suc end - at) ps)

-- where the walk ends: every point from there on lies outside all contours
unfoldable pub reached : ℕ → List ℕ → ℕ
reached at [] = at
reached at (end ∷ ends) = reached (suc end) ends

-- the current coordinates after IUP; a point is touched where its flag has the axis's bit
unfoldable pub iup_of : Axis → List ℕ → List ℕ → List ℤ → List ℤ → List ℤ → List ℤ
iup_of axis flags contours unscaled original current = walk_of 0 contours (points_of (touch_bit axis) flags unscaled original current)

-- ---- the direct call
-- what it says, and the current coordinates that it leaves
pub record Swept : Type 0 where
  pub answer : Result ⊤ Refusal
  pub current : List ℤ

abbrev pub swept : Result ⊤ Refusal → List ℤ → Swept
swept r l = record { answer = r; current = l }

-- four lists of one length within the limit, and contours within theirs
unfoldable pub sizes_fit : ℕ → ℕ → ℕ → ℕ → ℕ → Bool
sizes_fit flags contours unscaled original current =
    eqb unscaled current && (eqb original current && (eqb flags current && (leb current most_points && leb contours most_contours)))

-- the sizes, then the ends
unfoldable pub tried_of : Axis → List ℕ → List ℕ → List ℤ → List ℤ → List ℤ → Swept
tried_of axis flags contours unscaled original current =
    cond (sizes_fit (length flags) (length contours) (length unscaled) (length original) (length current))
    (cond (ends_rise (length current) contours) (swept (Ok tt) (iup_of axis flags contours unscaled original current)) (swept (Err Ends) current))
    (swept (Err Sizes) current)
