-- The corners at -2 ^ 31 and at divisor 0 that document 01's table leaves out, as one claim; the table itself is `PaperNumbers` of the crate laws_run. Then
-- which roundings go past 32 bits, for each mode, sign and operation that can: one row where it does, and one beside it where it doesn't. Each row computes
-- from the definitions. Assumes nothing.
use mathlib.Core.Path.{◌≡◌, refl}
use mathlib.Core.Bool.{Bool, true, false}
use mathlib.Core.List.{List, [], ◌∷◌, map}
use Prim.Native.Nat.{ℕ}
use lib.IntN.{ℤ, pos, neg_ℤ}
use Rattle.int.specs.Word.{wrap32, add32, sub32, neg32, mul32, quot32, and32, min_z, max_z}
use Rattle.math.specs.Fixed.{multiple_below, pad_floor, pad_round, half_up, with_sign, mul_div, div_fix}
use Rattle.round.specs.Round.{double_grid, down_to_grid, grid, half_grid, inward, keep_down, keep_up, mirrored, outward, period_floor, rounding, super_by, up_to_grid}
use Rattle.round.specs.Tracked.{given, minus, negated, over, past, plus, times}
use Rattle.round.specs.declared.RoundMode.TheVariants.{DoubleGrid, DownToGrid, Grid, HalfGrid, Off, Super, Super45, UpToGrid}
use Rattle.round.specs.declared.RoundMode.{RoundMode}
use Rattle.round.specs.declared.RoundState.{RoundState}

-- -n
abbrev neg : ℕ → ℤ
neg n = neg_ℤ (pos n)

-- what a rule gives, and what it is to give
unfoldable pub rows : List (ℤ × ℤ)
rows =
    ((mirrored half_grid (neg 2147483648)).word, pos 0)
    ∷ ((period_floor true (neg 1) (given (neg 2147483648))).word, neg 2147483648)
    ∷ (mul_div (pos 0) (neg 5) (pos 0), neg 2147483647)
    ∷ (div_fix (pos 0) (pos 0), pos 2147483647)
    ∷ (pad_round (pos 5) (neg 2147483648), neg 2147483648)
    ∷ []

pub corners : map (λ r. r.0) rows ≡ map (λ r. r.1) rows
unfolding rows half_grid inward outward period_floor plus negated times over past mul_div half_up with_sign multiple_below pad_floor pad_round wrap32 add32 sub32 neg32 mul32 quot32 and32 min_z max_z
corners = refl

-- ---- past 32 bits or not
-- a round state, its threshold, phase and period
abbrev state : RoundMode → ℤ → ℤ → ℤ → RoundState
state mode threshold phase period = record { mode = mode; threshold = threshold; phase = phase; period = period }

-- a mode that goes by the grid alone
abbrev plain : RoundMode → ℤ → Bool
plain mode d = (rounding (state mode (pos 0) (pos 0) (pos 64)) d).wrapped

abbrev wraps : RoundState → ℤ → Bool
wraps s d = (rounding s d).wrapped

abbrev least : ℤ
least = neg 2147483648

unfoldable pub marks : List (Bool × Bool)
marks =
    -- the sum, above and below 0, and the distance's negation
    (plain Grid (pos 2147483615), false)
    ∷ (plain Grid (pos 2147483616), true)
    ∷ (plain Grid (neg 2147483615), false)
    ∷ (plain Grid (neg 2147483616), true)
    ∷ (plain Grid least, true)
    -- HalfGrid's sum is of a multiple of 64, and never goes past
    ∷ (plain HalfGrid (pos 2147483647), false)
    ∷ (plain HalfGrid (neg 2147483647), false)
    ∷ (plain HalfGrid least, true)
    ∷ (plain DoubleGrid (pos 2147483631), false)
    ∷ (plain DoubleGrid (pos 2147483632), true)
    ∷ (plain DoubleGrid (neg 2147483632), true)
    ∷ (plain DownToGrid (pos 2147483647), false)
    ∷ (plain DownToGrid (neg 2147483647), false)
    ∷ (plain DownToGrid least, true)
    ∷ (plain UpToGrid (pos 2147483584), false)
    ∷ (plain UpToGrid (pos 2147483585), true)
    ∷ (plain UpToGrid (neg 2147483585), true)
    ∷ (plain Off (pos 2147483647), false)
    ∷ (plain Off least, false)
    -- the bias; the distance and the bias, above and below 0
    ∷ (wraps (state Super least (pos 0) (pos 64)) (pos 5), false)
    ∷ (wraps (state Super least (pos 1) (pos 64)) (pos 5), true)
    ∷ (wraps (state Super (pos 32) (pos 0) (pos 64)) (pos 2147483615), false)
    ∷ (wraps (state Super (pos 32) (pos 0) (pos 64)) (pos 2147483616), true)
    ∷ (wraps (state Super (neg 1) (pos 0) (pos 64)) least, false)
    ∷ (wraps (state Super (pos 0) (pos 0) (pos 64)) least, true)
    -- the period's negation, which Super45 doesn't use
    ∷ (wraps (state Super (pos 0) (pos 0) least) (pos 5), true)
    ∷ (wraps (state Super45 (pos 0) (pos 0) least) (pos 5), false)
    -- the phase added, and taken off
    ∷ (wraps (state Super (pos 0) (pos 63) (pos 64)) (pos 2147483647), false)
    ∷ (wraps (state Super (pos 64) (pos 64) (pos 64)) (pos 2147483647), true)
    ∷ (wraps (state Super (pos 64) (pos 64) (pos 64)) (neg 2147483647), false)
    ∷ (wraps (state Super (pos 65) (pos 65) (pos 64)) (neg 2147483647), true)
    -- the result's negation
    ∷ (wraps (state Super (pos 0) (pos 0) (pos 64)) (neg 1), false)
    ∷ (wraps (state Super least (neg 1) (pos 1)) (neg 1), false)
    ∷ (wraps (state Super least (neg 0) (neg 1)) (neg 1), false)
    -- the phase's negation in place of the result
    ∷ (wraps (state Super (pos 5) (neg 5) (pos 64)) (neg 1), false)
    ∷ (wraps (state Super (neg 2147483644) least (pos 64)) (neg 1), true)
    -- the quotient
    ∷ (wraps (state Super45 least (pos 0) (neg 1)) (pos 1), false)
    ∷ (wraps (state Super45 least (pos 0) (neg 1)) (pos 0), true)
    ∷ []

pub marked : map (λ r. r.0) marks ≡ map (λ r. r.1) marks
unfolding marks grid half_grid double_grid down_to_grid up_to_grid inward outward period_floor keep_up keep_down super_by plus minus negated times over past multiple_below pad_floor wrap32 neg32 and32 min_z max_z
marked = refl
