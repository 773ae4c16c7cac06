-- What every selector's period comes to, by the three that a grid has: it is from 22 * 256 to 2 ^ 15 in 2.14, so what is left of it in 26.6 is
-- never 0, and no selector makes a state that the state test refuses. Assumes nothing.
use Prim.Native.Nat.{ℕ, ◌*◌, ◌/◌, ◌%◌, ◌≤◌}
use native.Mathlib.Omega.{arith}
use mathlib.Core.Bool.{Bool, true, false, not}
use mathlib.Core.Path.{◌≡◌, refl, ap}
use lib.Dec.{eqb}
use lib.IntN.{ℤ, pos, negsuc, nat_abs}
use borrow.Author.Tests.{ne_eqb}
use Rattle.int.specs.Word.{bits_of, eq_z}
use Rattle.round.specs.Round.{usable}
use Rattle.super_round.specs.Selector.{grid_period, period_by, state_by, super_of}
use Rattle.int.proofs.Tests.{either}

-- ---- the period
pub grid_most : (diagonal : Bool) → grid_period diagonal ≤ 0x4000
grid_most true = omega arith
grid_most false = omega arith

-- each of the three
by_field : (P : ℕ → Type 0) (grid field : ℕ) → P (grid / 2) → P (grid * 2) → P grid → P (period_by grid field)
unfolding period_by
by_field P grid field half twice once = either P (eqb field 0) half (either P (eqb field 2) twice once)

pub period_most : (diagonal : Bool) (field : ℕ) → period_by (grid_period diagonal) field ≤ 0x8000
period_most true field = by_field (λ p. p ≤ 0x8000) 0x2D41 field (omega arith) (omega arith) (omega arith)
period_most false field = by_field (λ p. p ≤ 0x8000) 0x4000 field (omega arith) (omega arith) (omega arith)

pub period_least : (diagonal : Bool) (field : ℕ) → 22 * 256 ≤ period_by (grid_period diagonal) field
period_least true field = by_field (λ p. 22 * 256 ≤ p) 0x2D41 field (omega arith) (omega arith) (omega arith)
period_least false field = by_field (λ p. 22 * 256 ≤ p) 0x4000 field (omega arith) (omega arith) (omega arith)

-- ---- the state
-- the smallest period of all is 22, S45ROUND's halved
pub least_period : (diagonal : Bool) (word : ℤ) → 22 ≤ nat_abs (super_of diagonal word).period
unfolding state_by
least_period diagonal word = omega (arith, period_least diagonal (bits_of word % 256 / 64))

some_period : (z : ℤ) → 22 ≤ nat_abs z → not (eq_z z (pos 0)) ≡ true
some_period (pos n) h = ap not (ne_eqb n 0 (λ e. omega (arith, h, e)))
some_period (negsuc n) h = refl

pub super_usable : (diagonal : Bool) (word : ℤ) → usable (super_of diagonal word) ≡ true
unfolding state_by
super_usable true word = some_period (super_of true word).period (least_period true word)
super_usable false word = refl
