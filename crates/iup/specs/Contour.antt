-- One contour under IUP, on one axis: the OpenType instruction IUP, and FreeType 2.13.3, ttinterp.c (the body of Ins_IUP's loop, iup_worker_shift_,
-- iup_worker_interpolate_), on words that wrap. Points are taken cyclically: after the last comes the first. Assumes nothing.
use Rattle.std.specs.Prelude.{ℕ, Bool, cond, ◌||◌, List, [], ◌∷◌, map, ℤ}
use Rattle.std.specs.Int.Signed.{le_z}
use Rattle.int.specs.Word.{add32, sub32, eq_z}
use Rattle.math.specs.Fixed.{mul_fix, div_fix}
use Rattle.flags.specs.Flag.{has_any}
use Rattle.iup.specs.declared.Place.{Place}

-- a point of the contour: its three coordinates, and whether it is touched on this axis
pub record Point : Type 0 where
  pub place : Place
  pub touched : Bool

-- how far a point was moved
abbrev pub offset : Place → ℤ
offset p = sub32 p.current p.original

-- p strictly between its references: in proportion to the unscaled coordinates; where that has no meaning, at the lower reference
unfoldable pub inside : Place → Place → Place → ℤ
inside low high p =
    cond (eq_z low.current high.current || eq_z low.unscaled high.unscaled)
    low.current
    (add32 low.current
    (mul_fix (sub32 p.unscaled low.unscaled)
    (div_fix (sub32 high.current low.current) (sub32 high.unscaled low.unscaled))))

-- p by its references in order: at or below the lower and at or above the higher it moves with that reference
unfoldable pub along : Place → Place → Place → ℤ
along low high p =
    cond (le_z p.original low.original)
    (add32 p.original (offset low))
    (cond (le_z high.original p.original)
    (add32 p.original (offset high))
    (inside low high p))

-- the references are put in order by their unscaled coordinates
unfoldable pub between : Place → Place → Place → ℤ
between a b p = cond (le_z a.unscaled b.unscaled) (along a b p) (along b a p)

-- the touched points
unfoldable pub touched_places : List Point → List Place
touched_places [] = []
touched_places (p ∷ ps) = cond p.touched (p.place ∷ touched_places ps) (touched_places ps)

-- the first of a list, or another
abbrev pub head_or : Place → List Place → Place
head_or other [] = other
head_or other (p ∷ ps) = p

-- the last of p ∷ ps
abbrev pub last_of : Place → List Place → Place
last_of p [] = p
last_of p (q ∷ ps) = last_of q ps

-- each untouched point goes between the nearest touched one before it and the nearest after it; behind the last touched point that is the first.
-- `before` is the nearest one before the points of the list
unfoldable pub spread : Place → Place → List Point → List ℤ
spread before first [] = []
spread before first (p ∷ ps) =
    cond p.touched
    (p.place.current ∷ spread p.place first ps)
    (between before (head_or first (touched_places ps)) p.place ∷ spread before first ps)

-- moved by d, unless touched
abbrev pub shifted_by : ℤ → Point → ℤ
shifted_by d p = cond p.touched p.place.current (add32 p.place.current d)

abbrev pub current_of : List Point → List ℤ
current_of ps = map (λ p. p.place.current) ps

-- by how many points are touched: with none nothing moves, one takes all others along, and from two on the others are spread
abbrev pub by_touched : List Point → List Place → List ℤ
by_touched ps [] = current_of ps
by_touched ps (t ∷ []) = map (shifted_by (offset t)) ps
by_touched ps (t ∷ (u ∷ us)) = spread (last_of u us) t ps

-- the current coordinates after IUP
unfoldable pub contour_of : List Point → List ℤ
contour_of ps = by_touched ps (touched_places ps)

-- the points that four lists of one length hold. A point is touched where its flag has a bit of the mask
unfoldable pub points_of : ℕ → List ℕ → List ℤ → List ℤ → List ℤ → List Point
points_of mask [] us os cs = []
points_of mask (f ∷ fs) [] os cs = []
points_of mask (f ∷ fs) (u ∷ us) [] cs = []
points_of mask (f ∷ fs) (u ∷ us) (o ∷ os) [] = []
points_of mask (f ∷ fs) (u ∷ us) (o ∷ os) (c ∷ cs) =
    record { place = record { unscaled = u; original = o; current = c }; touched = has_any f mask } ∷ points_of mask fs us os cs
