-- The drawing steps of a glyph, as a list, in whole 128ths of a pixel: document 02, K13; the OpenType glyf table, and FreeType 2.13.3, ftoutln.c (FT_Outline_Decompose), which hands out a
-- line before each close, and a curve for a single off-curve point, that document 02 doesn't have. Points go by their numbers. Assumes nothing.
use Rattle.std.specs.Prelude.{ℕ, zero, suc, ◌-◌, Bool, cond, ◌&&◌, true, List, [], ◌∷◌, ◌++◌, leb, ℤ, pos, negsuc, ◌+ℤ◌, length, get_or}
use Rattle.std.specs.Int.Signed.{le_z}
use Rattle.answer.specs.declared.Refusal.{Refusal}
use Rattle.answer.specs.declared.Refusal.TheVariants.{Ends, Far, Sizes}
use Rattle.contour_ends.specs.Ends.{ends_rise}
use Rattle.flags.specs.Flag.{has_any}
use Rattle.limits.specs.Limits.{most_contours}
use Rattle.outline_numbers.specs.Drawing.{spot}
use Rattle.outline_numbers.specs.declared.Spot.{Spot}
use Rattle.outline_numbers.specs.declared.Stroke.{Stroke}
use Rattle.outline_numbers.specs.declared.Stroke.TheVariants.{Move, Line, Curve, Close}
use Rattle.zone.specs.Sizes.{placed_fits}

-- current coordinates in 64ths, flags, and the last point of each contour
pub record Glyph : Type 0 where
  pub xs : List ℤ
  pub ys : List ℤ
  pub flags : List ℕ
  pub contours : List ℕ

abbrev pub glyph : List ℤ → List ℤ → List ℕ → List ℕ → Glyph
glyph xs ys flags contours = record { xs = xs; ys = ys; flags = flags; contours = contours }

-- ---- points
-- bit 0 of the flag
abbrev pub is_on : List ℕ → ℕ → Bool
is_on flags at = has_any (get_or flags at 0) 1

abbrev pub on : Glyph → ℕ → Bool
on g at = is_on g.flags at

-- the midpoint of two points, in 128ths: half the sum of two numbers of 64ths
abbrev pub midway : List ℤ → ℕ → ℕ → ℤ
midway l a b = get_or l a (pos 0) +ℤ get_or l b (pos 0)

abbrev pub spot_of : List ℤ → List ℤ → ℕ → ℕ → Spot
spot_of xs ys a b = spot (midway xs a b) (midway ys a b)

abbrev pub between : Glyph → ℕ → ℕ → Spot
between g a b = spot_of g.xs g.ys a b

abbrev pub own : Glyph → ℕ → Spot
own g a = between g a a

-- ---- steps
abbrev pub move_to : Spot → Stroke
move_to s = Move s.x s.y

abbrev pub line_to : Spot → Stroke
line_to s = Line s.x s.y

abbrev pub curve_to : Spot → Spot → Stroke
curve_to c s = Curve c.x c.y s.x s.y

-- ---- a contour
-- the off-curve point that waits for the end of its curve
pub data Waits : Type 0 where
  none : Waits
  off : ℕ → Waits

-- "The remaining points are then visited in order, an on-curve one ending a line or a pending curve"; "two off-curve points in a row have their midpoint between them"; "at the end a
-- pending off-curve point gives a curve to the start, and close follows". s is the start, and n points are left, from `at` on
unfoldable pub visit : Glyph → Spot → Waits → ℕ → ℕ → List Stroke
visit g s none at zero = Close ∷ []
visit g s (off c) at zero = curve_to (own g c) s ∷ Close ∷ []
visit g s none at (suc n) = cond (on g at) (line_to (own g at) ∷ visit g s none (suc at) n) (visit g s (off at) (suc at) n)
visit g s (off c) at (suc n) =
    cond (on g at)
    (curve_to (own g c) (own g at) ∷ visit g s none (suc at) n)
    (curve_to (own g c) (between g c at) ∷ visit g s (off at) (suc at) n)

-- a start, and the points from `at` on that stand before `stop`
abbrev pub begun : Glyph → Spot → ℕ → ℕ → List Stroke
begun g s at stop = move_to s ∷ visit g s none at (stop - at)

-- "A contour starts at its first point if on curve, else at the last if that is, else at the midpoint of both"; "a single point gives move and close"
unfoldable pub contour_of : Glyph → ℕ → ℕ → List Stroke
contour_of g first last =
    cond (leb last first)
    (begun g (own g first) (suc last) (suc last))
    (cond (on g first)
    (begun g (own g first) (suc first) (suc last))
    (cond (on g last)
    (begun g (own g last) first last)
    (begun g (between g first last) first (suc last))))

-- ---- the glyph
-- the contours one after the other, each from where the last one ended; points after the last contour are not drawn
unfoldable pub contours_of : Glyph → ℕ → List ℕ → List Stroke
contours_of g first [] = []
contours_of g first (last ∷ ends) = contour_of g first last ++ contours_of g (suc last) ends

unfoldable pub steps_of : Glyph → List Stroke
steps_of g = contours_of g 0 g.contours

-- ---- which glyphs are drawn
-- three lists of one length within the limit, and contours within theirs: answer 2
unfoldable pub sizes_fit : Glyph → Bool
sizes_fit g = placed_fits g.xs g.ys g.flags && leb (length g.contours) most_contours

-- "A current glyph coordinate beyond ±4,194,304 gives answer 19 before any step", whether it is drawn or not
abbrev pub is_close : ℤ → Bool
is_close z = le_z (negsuc 4194303) z && le_z z (pos 4194304)

unfoldable pub all_close : List ℤ → Bool
all_close [] = true
all_close (z ∷ l) = is_close z && all_close l

pub data Entry : Type 0 where
  drawable : Entry
  refused : Refusal → Entry

-- the sizes, then the ends ("K8's rule on ends applies"), then the coordinates
unfoldable pub entry_of : Glyph → Entry
entry_of g =
    cond (sizes_fit g)
    (cond (ends_rise (length g.xs) g.contours)
    (cond (all_close g.xs && all_close g.ys) drawable (refused Far))
    (refused Ends))
    (refused Sizes)
