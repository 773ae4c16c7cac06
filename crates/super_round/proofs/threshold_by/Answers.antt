-- `super_round::threshold_by` meets its contract: every step fits 32 bits, since the period is at most 2 ^ 15 and the field below 16. Assumes nothing.
use mathlib.Core.Path.{◌≡◌}
use Prim.Native.Nat.{◌+◌, ◌*◌, ◌<◌}
use native.Mathlib.Nat.{mul-le-mul}
use native.Mathlib.Omega.{arith}
use borrow.Author.Tests.{eq-eqb, ne_eqb}
use mir.Facts.{to_z-of_z, to_z_pos}
use mir.Syntax.{w32}
use mir.Val.{SFits, to_z}
use lib.IntN.{ℤ, pos, neg_ℤ, ◌-ℤ◌, ◌*ℤ◌}
use lib.Signed.{mag, nat_abs-le, quot_z}
use Rattle.int.proofs.Ints.{mag_add, mag_neg, mag_mul, mag_quot}
use Rattle.super_round.specs.Selector.{threshold_by}
use Rattle.super_round.proofs.threshold_by.Goals as goal
use Rattle.super_round.proofs.threshold_by.Goals.{Start}

module _ (s : Start) where
  -- what the casts give back
  period_is : to_z w32 s.args.period ≡ pos s.args.period
  period_is = to_z_pos w32 (omega (arith, s.requires.1.0))

  field_is : to_z w32 s.args.field ≡ pos s.args.field
  field_is = to_z_pos w32 (omega (arith, s.requires.1.1))

  less_one_fits : SFits w32 (pos s.args.period -ℤ pos 1)
  less_one_fits = record { sfits = omega (arith, mag_add (pos s.args.period) (neg_ℤ (pos 1)), s.requires.1.0) }

  -- the field less four, times the period, by eight
  abbrev eighths : ℤ
  eighths = pos s.args.field -ℤ pos 4

  eighths_small : mag eighths < 22
  eighths_small = omega (arith, mag_add (pos s.args.field) (neg_ℤ (pos 4)), mag_neg (pos 4), s.requires.1.1)

  eighths_fit : SFits w32 eighths
  eighths_fit = record { sfits = omega (arith, eighths_small) }

  abbrev product : ℤ
  product = eighths *ℤ pos s.args.period

  product_small : mag product < 22 * 0x8000 + 1
  product_small = omega (arith, mag_mul eighths (pos s.args.period), mul-le-mul (nat_abs-le eighths eighths_small) s.requires.1.0)

  product_fits : SFits w32 product
  product_fits = record { sfits = omega (arith, product_small) }

  quotient_fits : SFits w32 (quot_z product (pos 8))
  quotient_fits = record { sfits = omega (arith, mag_quot product (pos 8), nat_abs-le product product_small) }

pub returns-then-field-eq0 : goal.returns-then-field-eq0
unfolding threshold_by
returns-then-field-eq0 c = let s = c in rw (eq-eqb s.args.field 0 c.if-field-eq0.true, period_is (goal.at.returns-then-field-eq0 c).Start) (to_z-of_z (less_one_fits (goal.at.returns-then-field-eq0 c).Start))

pub returns-else-field-eq0 : goal.returns-else-field-eq0
unfolding threshold_by
returns-else-field-eq0 c = let s = c in
    rw (ne_eqb s.args.field 0 c.if-field-eq0.false, field_is (goal.at.returns-else-field-eq0 c).Start, period_is (goal.at.returns-else-field-eq0 c).Start, to_z-of_z (eighths_fit (goal.at.returns-else-field-eq0 c).Start), to_z-of_z (product_fits (goal.at.returns-else-field-eq0 c).Start)) (to_z-of_z (quotient_fits (goal.at.returns-else-field-eq0 c).Start))
