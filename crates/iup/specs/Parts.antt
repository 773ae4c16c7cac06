-- What the inner functions work out: the searches for touched points, the references of a stretch, and a stretch between them. Nobody need believe this:
-- Contour.antt and Iup.antt are what `iup` is held to. Assumes nothing.
use Rattle.std.specs.Prelude.{ℕ, zero, suc, Bool, cond, ◌||◌, List, [], ◌∷◌, map, ltb, ℤ, pos, length, get_or}
use Rattle.std.specs.Int.Signed.{le_z}
use Rattle.int.specs.Word.{add32, sub32, eq_z}
use Rattle.math.specs.Fixed.{mul_fix, div_fix}
use Rattle.flags.specs.Flag.{has_any}
use Rattle.iup.specs.Contour.{offset}
use Rattle.iup.specs.declared.Place.{Place}

-- which points are touched
abbrev pub marks : ℕ → List ℕ → List Bool
marks mask flags = map (λ f. has_any f mask) flags

-- how many stand before the first mark
abbrev pub ahead : List Bool → ℕ
ahead [] = 0
ahead (b ∷ bs) = cond b 0 (suc (ahead bs))

abbrev pub one_more : Bool → ℕ → ℕ
one_more b zero = cond b 1 0
one_more b (suc n) = suc (suc n)

-- how many stand up to the last mark, with it; 0 where there is none
abbrev pub up_to_last : List Bool → ℕ
up_to_last [] = 0
up_to_last (b ∷ bs) = one_more b (up_to_last bs)

-- the place of point `at`, or another
unfoldable pub place_at : List ℤ → List ℤ → List ℤ → ℕ → Place → Place
place_at us os cs at other =
    cond (ltb at (length cs)) (record { unscaled = get_or us at (pos 0); original = get_or os at (pos 0); current = get_or cs at (pos 0) }) other

abbrev pub level : Place → Place → Bool
level low high = eq_z low.current high.current || eq_z low.unscaled high.unscaled

abbrev pub slope : Place → Place → ℤ
slope low high =
    cond (level low high) (pos 0) (div_fix (sub32 high.current low.current) (sub32 high.unscaled low.unscaled))

-- a point by its references in order, with what is worked out once for a stretch
unfoldable pub inside_by : Place → Bool → ℤ → ℤ → ℤ
inside_by low flat scale u = cond flat low.current (add32 low.current (mul_fix (sub32 u low.unscaled) scale))

unfoldable pub moved_by : Place → Place → Bool → ℤ → ℤ → ℤ → ℤ
moved_by low high flat scale u o =
    cond (le_z o low.original)
    (add32 o (offset low))
    (cond (le_z high.original o)
    (add32 o (offset high))
    (inside_by low flat scale u))

unfoldable pub by_references : Place → Place → ℤ → ℤ → ℤ
by_references a b =
    cond (le_z a.unscaled b.unscaled) (moved_by a b (level a b) (slope a b)) (moved_by b a (level b a) (slope b a))

-- f of two lists, element by element
abbrev pub both : (ℤ → ℤ → ℤ) → List ℤ → List ℤ → List ℤ
both f [] os = []
both f (u ∷ us) [] = []
both f (u ∷ us) (o ∷ os) = f u o ∷ both f us os
