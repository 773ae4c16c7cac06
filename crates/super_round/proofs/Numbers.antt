-- Worked selectors, as one claim: the fields one by one, the reserved period, S45ROUND's numbers, which a shift before the arithmetic would miss
-- (-8 for -9), and operands that differ above the low byte. Each row computes from the definition. Assumes nothing.
use mathlib.Core.Path.{◌≡◌, refl}
use mathlib.Core.Bool.{Bool, true, false}
use mathlib.Core.List.{List, [], ◌∷◌, map}
use Prim.Native.Nat.{ℕ}
use lib.IntN.{ℤ, pos, neg_ℤ}
use Rattle.round.specs.declared.RoundState.{RoundState}
use Rattle.super_round.specs.Selector.{super_mode, period_by, phase_by, threshold_by, state_by, super_of}

abbrev sround : ℕ → RoundState
sround n = super_of false (pos n)

abbrev s45round : ℕ → RoundState
s45round n = super_of true (pos n)

-- period, phase and threshold in 26.6
abbrev of : Bool → ℕ → ℕ → ℤ → RoundState
of diagonal period phase threshold = record { mode = super_mode diagonal; threshold = threshold; phase = pos phase; period = pos period }

-- what a selector gives, and what it is to be
unfoldable pub rows : List (RoundState × RoundState)
rows =
    (sround 0x48, of false 64 0 (pos 32)) ∷ (sround 0x08, of false 32 0 (pos 16)) ∷ (sround 0x88, of false 128 0 (pos 64)) ∷ (sround 0xC8, of false 64 0 (pos 32))
    ∷ (sround 0x58, of false 64 16 (pos 32)) ∷ (sround 0x68, of false 64 32 (pos 32)) ∷ (sround 0x78, of false 64 48 (pos 32))
    ∷ (sround 0x00, of false 32 0 (pos 31)) ∷ (sround 0x40, of false 64 0 (pos 63)) ∷ (sround 0x41, of false 64 0 (neg_ℤ (pos 24))) ∷ (sround 0x4F, of false 64 0 (pos 88))
    ∷ (s45round 0x48, of true 45 0 (pos 22)) ∷ (s45round 0x01, of true 22 0 (neg_ℤ (pos 9))) ∷ (s45round 0xB0, of true 90 67 (pos 90))
    ∷ (super_of false (pos 0x148), of false 64 0 (pos 32))
    ∷ (super_of true (neg_ℤ (pos 255)), of true 22 0 (neg_ℤ (pos 9)))
    ∷ []

pub numbers : map (λ r. r.0) rows ≡ map (λ r. r.1) rows
unfolding rows period_by phase_by threshold_by state_by
numbers = refl
