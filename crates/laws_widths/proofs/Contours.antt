-- IUP keeps every coordinate in its width: each new one is a wrapped sum or the current coordinate of some point. Assumes nothing.
use mathlib.Core.Bool.{◌||◌}
use mathlib.Core.List.{List, [], ◌∷◌}
use Prim.Native.Nat.{◌-◌, suc, ℕ}
use lib.IntN.{ℤ}
use lib.Signed.{le_z}
use mir.Syntax.{w32}
use mir.Val.{SFits}
use Rattle.int.proofs.Tests.{either}
use Rattle.int.proofs.Wraps.{add32_fits}
use Rattle.int.specs.Word.{eq_z}
use Rattle.iup.specs.Contour.{Point, along, between, by_touched, contour_of, current_of, offset, head_or, inside, last_of, points_of, shifted_by, spread, touched_places}
use Rattle.flags.specs.Axis.{touch_bit}
use Rattle.flags.specs.declared.Axis.{Axis}
use Rattle.iup.specs.Iup.{iup_of, walk_of}
use Rattle.iup.specs.declared.Place.{Place}
use Rattle.words.proofs.Widths.{Every, Numbers, every_drop, every_join, every_map, every_take, no_word, one_word}

-- a place whose current coordinate is a word, and a point with such a place
abbrev PlaceFits : Place → Type 0
PlaceFits p = SFits w32 p.current

abbrev PointFits : Point → Type 0
PointFits p = PlaceFits p.place

-- ---- one point between two others
inside_fits : (low high p : Place) → PlaceFits low → SFits w32 (inside low high p)
unfolding inside
inside_fits low high p f = either (SFits w32) (eq_z low.current high.current || eq_z low.unscaled high.unscaled) f (add32_fits low.current _)

along_fits : (low high p : Place) → PlaceFits low → SFits w32 (along low high p)
unfolding along
along_fits low high p f =
    either (SFits w32) (le_z p.original low.original) (add32_fits p.original (offset low))
    (either (SFits w32) (le_z high.original p.original) (add32_fits p.original (offset high)) (inside_fits low high p f))

between_fits : (a b p : Place) → PlaceFits a → PlaceFits b → SFits w32 (between a b p)
unfolding between
between_fits a b p f g = either (SFits w32) (le_z a.unscaled b.unscaled) (along_fits a b p f) (along_fits b a p g)

-- ---- a contour
touched_fit : {ps : List Point} → Every PointFits ps → Every PlaceFits (touched_places ps)
unfolding touched_places
touched_fit no_word = no_word
touched_fit (one_word {w} h f) = either (Every PlaceFits) w.touched (one_word h (touched_fit f)) (touched_fit f)

head_fits : (other : Place) {ps : List Place} → PlaceFits other → Every PlaceFits ps → PlaceFits (head_or other ps)
head_fits other h no_word = h
head_fits other h (one_word g f) = g

last_fits : (p : Place) {ps : List Place} → PlaceFits p → Every PlaceFits ps → PlaceFits (last_of p ps)
last_fits p h no_word = h
last_fits p h (one_word {w} g f) = last_fits w g f

spread_fits : (before first : Place) → PlaceFits before → PlaceFits first → {ps : List Point} → Every PointFits ps → Numbers (spread before first ps)
unfolding spread
spread_fits before first b g no_word = no_word
spread_fits before first b g (one_word {w} {ws} h f) =
    either Numbers w.touched (one_word h (spread_fits w.place first h g f))
    (one_word (between_fits before (head_or first (touched_places ws)) w.place b (head_fits first g (touched_fit f))) (spread_fits before first b g f))

current_fit : {ps : List Point} → Every PointFits ps → Numbers (current_of ps)
current_fit f = every_map (λ (p : Point). p.place.current) (λ p h. h) f

shifted_fits : (d : ℤ) (p : Point) → PointFits p → SFits w32 (shifted_by d p)
shifted_fits d p h = either (SFits w32) p.touched h (add32_fits p.place.current d)

by_touched_fits : {ps : List Point} → Every PointFits ps → {ts : List Place} → Every PlaceFits ts → Numbers (by_touched ps ts)
by_touched_fits f no_word = current_fit f
by_touched_fits f (one_word {w} h no_word) = every_map (shifted_by (offset w)) (shifted_fits (offset w)) f
by_touched_fits f (one_word {w} h (one_word {w = u} {ws = us} g k)) = spread_fits (last_of u us) w (last_fits u g k) h f

contour_fits : {ps : List Point} → Every PointFits ps → Numbers (contour_of ps)
unfolding contour_of
contour_fits f = by_touched_fits f (touched_fit f)

-- ---- the walk
points_fit : (mask : ℕ) (fs : List ℕ) (us os : List ℤ) {cs : List ℤ} → Numbers cs → Every PointFits (points_of mask fs us os cs)
unfolding points_of
points_fit mask [] us os f = no_word
points_fit mask (x ∷ fs) [] os f = no_word
points_fit mask (x ∷ fs) (u ∷ us) [] f = no_word
points_fit mask (x ∷ fs) (u ∷ us) (o ∷ os) no_word = no_word
points_fit mask (x ∷ fs) (u ∷ us) (o ∷ os) (one_word h f) = one_word h (points_fit mask fs us os f)

walk_fits : (at : ℕ) (ends : List ℕ) {ps : List Point} → Every PointFits ps → Numbers (walk_of at ends ps)
unfolding walk_of
walk_fits at [] f = current_fit f
walk_fits at (end ∷ ends) f = let m = suc end - at in every_join (contour_fits (every_take f m)) (walk_fits (suc end) ends (every_drop f m))

pub iup_fits : (axis : Axis) (flags contours : List ℕ) (unscaled original : List ℤ) {current : List ℤ} → Numbers current → Numbers (iup_of axis flags contours unscaled original current)
unfolding iup_of
iup_fits axis flags contours unscaled original f = walk_fits 0 contours (points_fit (touch_bit axis) flags unscaled original f)
