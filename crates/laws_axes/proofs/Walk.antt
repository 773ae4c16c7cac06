-- IUP's walk across the axis: it leaves the list's length. Assumes nothing.
use mathlib.Core.List.{List, [], ◌∷◌}
use mathlib.Core.Path.{◌∙◌, ◌≡◌, ap, refl, sym}
use lib.ListN.{length}
use Prim.Native.Nat.{suc, ℕ}
use lib.IntN.{ℤ}
use Rattle.laws_axes.proofs.Seen.{level_by}
use Rattle.laws_axes.specs.Axes.{leveled}
use Rattle.iup.proofs.Facts.{keeps_length, keeps_walk}
use Rattle.iup.specs.Contour.{points_of}
use Rattle.flags.specs.Axis.{touch_bit}
use Rattle.flags.specs.declared.Axis.{Axis}
use Rattle.iup.specs.Iup.{iup_of, walk_of}

-- ---- across the axis
points_level : (mask : ℕ) (fs : List ℕ) (us os cs : List ℤ) → length (points_of mask fs (leveled us) (leveled os) (leveled cs)) ≡ length (points_of mask fs us os cs)
unfolding points_of
points_level mask [] us os cs = refl
points_level mask (f ∷ fs) [] os cs = refl
points_level mask (f ∷ fs) (u ∷ us) [] cs = refl
points_level mask (f ∷ fs) (u ∷ us) (o ∷ os) [] = refl
points_level mask (f ∷ fs) (u ∷ us) (o ∷ os) (c ∷ cs) = ap suc (points_level mask fs us os cs)

walk_level : (mask : ℕ) (fs es : List ℕ) (us os cs : List ℤ)
    → length (walk_of 0 es (points_of mask fs (leveled us) (leveled os) (leveled cs))) ≡ length (walk_of 0 es (points_of mask fs us os cs))
walk_level mask fs es us os cs =
    keeps_length (keeps_walk 0 es (points_of mask fs (leveled us) (leveled os) (leveled cs)))
    ∙ points_level mask fs us os cs
    ∙ sym (keeps_length (keeps_walk 0 es (points_of mask fs us os cs)))

pub across : (axis : Axis) (fs es : List ℕ) (us os cs : List ℤ) → leveled (iup_of axis fs es (leveled us) (leveled os) (leveled cs)) ≡ leveled (iup_of axis fs es us os cs)
unfolding iup_of
across axis fs es us os cs = level_by (iup_of axis fs es (leveled us) (leveled os) (leveled cs)) (iup_of axis fs es us os cs) (walk_level (touch_bit axis) fs es us os cs)
