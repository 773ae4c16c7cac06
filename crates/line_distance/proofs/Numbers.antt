-- Distances on both sides of each test, and at the words that wrap, as one claim: what a definition gives, and what it is to give. Then which roundings count as past
-- 32 bits, and what the bits of an opcode say. Each row computes from the definitions. Assumes nothing.
use mathlib.Core.Path.{◌≡◌, refl}
use mathlib.Core.Bool.{Bool, true, false}
use mathlib.Core.List.{List, [], ◌∷◌, map}
use Prim.Native.Nat.{ℕ}
use lib.IntN.{ℤ, pos, neg_ℤ}
use Rattle.graphics.specs.State.{x_axis}
use Rattle.graphics.specs.declared.ZonePointer.TheVariants.{Glyph, Twilight}
use Rattle.graphics.specs.declared.ZonePointer.{ZonePointer}
use Rattle.int.specs.Word.{abs32, add32, and32, max_z, min_z, neg32, sub32, wrap32}
use Rattle.line.specs.Places.{place_in}
use Rattle.math.specs.Fixed.{half_up, mul_div, multiple_below, with_sign}
use Rattle.projection.specs.Projection.{along_of, axis_of}
use Rattle.round.specs.Round.{fresh, grid, inward, outward}
use Rattle.round.specs.Tracked.{negated, past, plus}
use Rattle.line_distance.specs.Distance.{at_least, chosen_of, cut_in_of, finished, flipped_of, keeps_minimum, minimum_of, on_side_of, rounded_unless, rounds, sets_rp0, single_control, single_outline}
use Rattle.line_distance.specs.Outline.{originals_apart, outline_of, unscaled_apart}

-- -n
abbrev neg : ℕ → ℤ
neg n = neg_ℤ (pos n)

abbrev least : ℤ
least = neg 2147483648

-- the last steps, rounded to the grid
abbrev ended : ℕ → Bool → ℤ → ℤ → ℤ → ℤ
ended opcode native minimum original d = (finished opcode native fresh minimum original d).word

abbrev ended_past : ℕ → Bool → ℤ → Bool
ended_past opcode native d = (finished opcode native fresh (pos 64) d d).wrapped

-- from point 1 to point 0 along x, at a scale of a half: unscaled they lie at 700 and 100, originally at 60 and 10, in twilight at 5 and 25
abbrev outline : ZonePointer → ZonePointer → ℤ
outline p q =
    let flat = pos 0 ∷ pos 0 ∷ [] in
    outline_of x_axis (pos 0x8000) p 0 q 1 (pos 700 ∷ pos 100 ∷ []) flat (pos 60 ∷ pos 10 ∷ []) flat (pos 5 ∷ pos 25 ∷ []) flat

unfoldable pub rows : List (ℤ × ℤ)
rows =
    -- the cut-in, reached and passed, on either side; a sixteenth of it
    (chosen_of (pos 68) (pos 168) (pos 100), pos 168)
    ∷ (chosen_of (pos 68) (pos 169) (pos 100), pos 100)
    ∷ (chosen_of (pos 68) (pos 32) (pos 100), pos 32)
    ∷ (chosen_of (pos 68) (pos 31) (pos 100), pos 100)
    ∷ (chosen_of (cut_in_of true (pos 68)) (pos 104) (pos 100), pos 104)
    ∷ (chosen_of (cut_in_of true (pos 68)) (pos 105) (pos 100), pos 100)
    ∷ (cut_in_of false (pos 68), pos 68)
    ∷ (cut_in_of true (pos 79), pos 4)
    ∷ (cut_in_of true (neg 1), neg 1)
    -- 2 ^ 31 apart, which wraps to the least number, and one nearer
    ∷ (chosen_of (pos 68) least (pos 0), least)
    ∷ (chosen_of (pos 68) (neg 2147483647) (pos 0), pos 0)
    -- MDRP's single width: nearer than the cut-in, or as near
    ∷ (single_outline (pos 10) (pos 100) (pos 109), pos 100)
    ∷ (single_outline (pos 10) (pos 100) (pos 110), pos 110)
    ∷ (single_outline (pos 10) (pos 100) (pos 91), pos 100)
    ∷ (single_outline (pos 10) (pos 100) (pos 90), pos 90)
    -- a distance below 0 is compared as it is, and keeps its side
    ∷ (single_outline (pos 10) (pos 100) (neg 100), neg 100)
    ∷ (single_outline (pos 10) (pos 6) (neg 3), neg 6)
    ∷ (single_outline (pos 10) (pos 6) (neg 4), neg 4)
    -- its sum and its difference wrap, and next to them don't
    ∷ (single_outline (pos 10) (pos 2147483638) (pos 2147483640), pos 2147483640)
    ∷ (single_outline (pos 10) (pos 2147483637) (pos 2147483640), pos 2147483637)
    ∷ (single_outline (pos 10) (neg 2147483639) (neg 2147483640), neg 2147483640)
    ∷ (single_outline (pos 10) (neg 2147483638) (neg 2147483640), pos 2147483638)
    -- a cut-in below 0, where both wrap, brings nothing near
    ∷ (single_outline (neg 1) least (pos 0), pos 0)
    -- MIRP's: nearer than the cut-in, or as near
    ∷ (single_control (pos 10) (pos 100) (pos 109), pos 100)
    ∷ (single_control (pos 10) (pos 100) (pos 110), pos 110)
    ∷ (single_control (pos 10) (pos 100) (pos 91), pos 100)
    ∷ (single_control (pos 10) (pos 100) (pos 90), pos 90)
    ∷ (single_control (pos 10) (pos 6) (neg 3), neg 6)
    ∷ (single_control (pos 10) (pos 6) (neg 4), neg 4)
    -- a difference that wraps is small; 2 ^ 31 away is within every cut-in but the least
    ∷ (single_control (pos 10) (pos 2147483639) least, neg 2147483639)
    ∷ (single_control (pos 10) (pos 2147483638) least, least)
    ∷ (single_control (pos 0) (pos 0) least, pos 0)
    ∷ (single_control (pos 0) (pos 0) (neg 2147483647), neg 2147483647)
    ∷ (single_control (neg 2147483647) (pos 0) least, pos 0)
    ∷ (single_control least (pos 0) least, least)
    ∷ (on_side_of (neg 1) least, least)
    -- auto flip, by the signs of the outline's distance and of the control value; 0 is above
    ∷ (flipped_of true (pos 1) (pos 5), pos 5)
    ∷ (flipped_of true (pos 1) (neg 5), pos 5)
    ∷ (flipped_of true (neg 1) (pos 5), neg 5)
    ∷ (flipped_of true (neg 1) (neg 5), neg 5)
    ∷ (flipped_of true (pos 0) (neg 5), pos 5)
    ∷ (flipped_of true (pos 1) least, least)
    ∷ (flipped_of false (pos 1) (neg 5), neg 5)
    ∷ (flipped_of false (neg 1) (pos 5), pos 5)
    -- the minimum distance on either side, and for a distance across 0; half of it
    ∷ (at_least (pos 64) (pos 1) (pos 63), pos 64)
    ∷ (at_least (pos 64) (pos 1) (pos 65), pos 65)
    ∷ (at_least (pos 64) (pos 1) (neg 70), pos 64)
    ∷ (at_least (pos 64) (pos 0) (pos 0), pos 64)
    ∷ (at_least (pos 64) (neg 1) (neg 63), neg 64)
    ∷ (at_least (pos 64) (neg 1) (neg 65), neg 65)
    ∷ (at_least (pos 64) (neg 1) (pos 70), neg 64)
    ∷ (at_least least (neg 1) (neg 5), least)
    ∷ (at_least (minimum_of true (pos 64)) (pos 1) (pos 31), pos 32)
    ∷ (at_least (minimum_of true (pos 64)) (neg 1) (neg 31), neg 32)
    ∷ (minimum_of true (pos 65), pos 32)
    ∷ (minimum_of true (neg 1), neg 1)
    ∷ (minimum_of false (pos 64), pos 64)
    -- by the opcode: neither, rounded, no nearer than the minimum, and both, where the other order would give 64
    ∷ (ended 0xC0 false (pos 50) (pos 20) (pos 20), pos 20)
    ∷ (ended 0xC4 false (pos 50) (pos 20) (pos 20), pos 0)
    ∷ (ended 0xC8 false (pos 50) (pos 20) (pos 20), pos 50)
    ∷ (ended 0xCC false (pos 50) (pos 20) (pos 20), pos 50)
    ∷ (ended 0xCC false (pos 50) (neg 20) (neg 20), neg 50)
    ∷ (ended 0xCC false (pos 50) (pos 40) (pos 40), pos 64)
    ∷ (ended 0xCC true (pos 50) (pos 20) (pos 20), pos 25)
    ∷ (ended 0xCC true (pos 50) (pos 40) (pos 40), pos 40)
    -- the colour; the outline's side
    ∷ (ended 0xCF false (pos 50) (pos 20) (pos 20), pos 50)
    ∷ (ended 0xEC false (pos 50) (neg 20) (pos 40), neg 50)
    -- unscaled and scaled where both points are the glyph's, else original
    ∷ (outline Glyph Glyph, pos 300)
    ∷ (outline Glyph Twilight, pos 35)
    ∷ (outline Twilight Glyph, neg 5)
    ∷ (outline Twilight Twilight, neg 20)
    ∷ []

pub distances : map (λ r. r.0) rows ≡ map (λ r. r.1) rows
unfolding rows cut_in_of chosen_of on_side_of single_outline single_control flipped_of rounded_unless minimum_of at_least finished originals_apart unscaled_apart outline_of place_in along_of axis_of mul_div half_up with_sign multiple_below grid inward outward plus negated past wrap32 add32 sub32 neg32 abs32 and32 min_z max_z
distances = refl

unfoldable pub marks : List (Bool × Bool)
marks =
    -- a rounding past 32 bits, which the minimum keeps, and none where nothing is rounded
    (ended_past 0xC4 false (pos 2147483615), false)
    ∷ (ended_past 0xC4 false (pos 2147483616), true)
    ∷ (ended_past 0xCC false (pos 2147483616), true)
    ∷ (ended_past 0xC8 false (pos 2147483616), false)
    ∷ (ended_past 0xCC true (pos 2147483616), false)
    -- each bit alone, and all but each
    ∷ (sets_rp0 0xD0, true)
    ∷ (keeps_minimum 0xC8, true)
    ∷ (rounds 0xC4, true)
    ∷ (sets_rp0 0xEF, false)
    ∷ (keeps_minimum 0xF7, false)
    ∷ (rounds 0xFB, false)
    ∷ []

pub marked : map (λ r. r.0) marks ≡ map (λ r. r.1) marks
unfolding marks rounded_unless minimum_of at_least finished multiple_below grid inward outward plus negated past wrap32 neg32 and32 min_z max_z
marked = refl
