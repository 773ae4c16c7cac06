-- Setting, clearing and flipping a mask's bits leaves every other bit of a flag alone: each operation goes bit by bit.
-- Assumes nothing.
use mathlib.Core.Path.{◌≡◌, refl, ap, ap₂, ◌∙◌}
use Prim.Native.Nat.{ℕ, zero, suc, ◌+◌, ◌-◌, ◌*◌, ◌/◌, ◌%◌, ◌^◌, ◌≤◌, ◌<◌, min, max}
use native.Mathlib.Omega.{arith}
use lib.Bits.{bit_and, bit_or, bit_xor, differ, and_shr, or_shr, xor_shr, and_step, or_step, xor_step}
use Rattle.flags.specs.Flag.{bit}

-- the lowest bit of a number that is put together from its half and a bit
lowest : (h b : ℕ) → b < 2 → (h * 2 + b) % 2 ≡ b
lowest h b l = omega arith

differ_lt : (a b : ℕ) → a < 2 → b < 2 → differ a b < 2
differ_lt zero b f g = g
differ_lt (suc a) zero f g = f
differ_lt (suc zero) (suc zero) f g = omega arith
differ_lt (suc zero) (suc (suc b)) f g = absurd (omega arith)
differ_lt (suc (suc a)) (suc b) f g = absurd (omega arith)

differ_zero : (a : ℕ) → differ a 0 ≡ a
differ_zero zero = refl
differ_zero (suc a) = refl

pub bit_or_lem : (k f m : ℕ) → bit k (bit_or f m) ≡ max (bit k f) (bit k m)
bit_or_lem k f m =
    ap (λ (n : ℕ). n % 2) (or_shr f m k ∙ or_step (f / 2 ^ k) (m / 2 ^ k))
    ∙ lowest (bit_or (f / 2 ^ k / 2) (m / 2 ^ k / 2)) (max (bit k f) (bit k m)) (omega arith)

pub bit_and_lem : (k f m : ℕ) → bit k (bit_and f m) ≡ min (bit k f) (bit k m)
bit_and_lem k f m =
    ap (λ (n : ℕ). n % 2) (and_shr f m k ∙ and_step (f / 2 ^ k) (m / 2 ^ k))
    ∙ lowest (bit_and (f / 2 ^ k / 2) (m / 2 ^ k / 2)) (min (bit k f) (bit k m)) (omega arith)

pub bit_xor_lem : (k f m : ℕ) → bit k (bit_xor f m) ≡ differ (bit k f) (bit k m)
bit_xor_lem k f m =
    ap (λ (n : ℕ). n % 2) (xor_shr f m k ∙ xor_step (f / 2 ^ k) (m / 2 ^ k))
    ∙ lowest (bit_xor (f / 2 ^ k / 2) (m / 2 ^ k / 2)) (differ (bit k f) (bit k m)) (differ_lt (bit k f) (bit k m) (omega arith) (omega arith))

-- ---- what a mask says
pub or_keeps : (k f m : ℕ) → bit k m ≡ 0 → bit k (bit_or f m) ≡ bit k f
or_keeps k f m e = omega (arith, bit_or_lem k f m)

pub or_sets : (k f m : ℕ) → bit k m ≡ 1 → bit k (bit_or f m) ≡ 1
or_sets k f m e = omega (arith, bit_or_lem k f m)

pub and_keeps : (k f m : ℕ) → bit k m ≡ 1 → bit k (bit_and f m) ≡ bit k f
and_keeps k f m e = omega (arith, bit_and_lem k f m)

pub and_clears : (k f m : ℕ) → bit k m ≡ 0 → bit k (bit_and f m) ≡ 0
and_clears k f m e = omega (arith, bit_and_lem k f m)

pub xor_keeps : (k f m : ℕ) → bit k m ≡ 0 → bit k (bit_xor f m) ≡ bit k f
xor_keeps k f m e = bit_xor_lem k f m ∙ ap (differ (bit k f)) e ∙ differ_zero (bit k f)
