-- `super_round::super_round` meets its contract: each number is what its function ensures of the byte's fields, which are in range, and fits 32 bits.
-- Assumes nothing.
use native.Mathlib.Omega.{arith}
use mir.Facts.{to_z-of_z, to_z_pos}
use mir.Syntax.{w32}
use Rattle.int.proofs.Words.{back32}
use Rattle.super_round.specs.Selector.{state_by}
use Rattle.super_round.proofs.super_round.Goals as goal

pub returns : goal.returns
unfolding state_by
returns c =
    let modes = c in
    let thresholds = modes in
    let phases = thresholds in
    let periods = phases in
    let bits = periods in
    let s = bits in
    let shifted = c.in_sixty_fourths-3 in
    let shifted2 = c.in_sixty_fourths-2 in
    let shifted1 = c.in_sixty_fourths in
    rw (modes.mode_of-mode.ensures, back32 shifted1.result shifted1.type_inv, shifted1.ensures, back32 thresholds.threshold_by-threshold.result thresholds.threshold_by-threshold.type_inv, thresholds.threshold_by-threshold.ensures, back32 shifted2.result shifted2.type_inv, shifted2.ensures, to_z_pos w32 {n = phases.phase_by-phase.result} (omega (arith, phases.phase_by-phase.ensures.1)), phases.phase_by-phase.ensures.0, back32 shifted.result shifted.type_inv, shifted.ensures, to_z_pos w32 {n = periods.period_by-period.result} (omega (arith, periods.period_by-period.ensures.1.1)), periods.period_by-period.ensures.0, bits.to_bits-selector.ensures, to_z-of_z s.ranges.word)
