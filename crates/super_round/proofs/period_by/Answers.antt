-- `super_round::period_by` meets its contract: by its two tests, on the period that the grid has. Assumes nothing.
use mathlib.Core.Bool.{Bool}
use mathlib.Core.Path.{◌≡◌, ap}
use Prim.Native.Nat.{ℕ, ◌*◌, ◌/◌, ◌≤◌, ◌<◌}
use native.Mathlib.Omega.{arith}
use borrow.Author.Tests.{eq-eqb, ne_eqb}
use Rattle.super_round.proofs.Facts.{period_least, period_most}
use Rattle.super_round.specs.Selector.{grid_period, period_by}
use Rattle.super_round.proofs.period_by.Goals as goal

-- with the result's bounds
bounded : (diagonal : Bool) (field : ℕ) {r : ℕ} → r ≡ period_by (grid_period diagonal) field → (r ≡ period_by (grid_period diagonal) field) × ((0 < r) × (r ≤ 0x8000))
bounded diagonal field e = (e, (omega (arith, e, period_least diagonal field), omega (arith, e, period_most diagonal field)))

pub returns-then-field-eq0 : goal.returns-then-field-eq0
unfolding period_by
returns-then-field-eq0 c = let a = c.args in
    bounded a.diagonal a.field (rw (eq-eqb a.field 0 c.if-field-eq0.true) (ap (λ (g : ℕ). g / 2) c.grid_period-grid.ensures))

pub returns-then-field-eq2 : goal.returns-then-field-eq2
unfolding period_by
returns-then-field-eq2 c = let a = c.args in
    bounded a.diagonal a.field (rw (ne_eqb a.field 0 c.if-field-eq0.false, eq-eqb a.field 2 c.if-field-eq2.true) (ap (λ (g : ℕ). g * 2) c.grid_period-grid.ensures))

pub returns-else-field-eq2 : goal.returns-else-field-eq2
unfolding period_by
returns-else-field-eq2 c = let a = c.args in
    bounded a.diagonal a.field (rw (ne_eqb a.field 0 c.if-field-eq0.false, ne_eqb a.field 2 c.if-field-eq2.false) c.grid_period-grid.ensures)
