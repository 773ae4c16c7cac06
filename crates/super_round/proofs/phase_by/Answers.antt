-- `super_round::phase_by` meets its contract: three quarters of the period are the most. Assumes nothing.
use mathlib.Core.Path.{refl}
use native.Mathlib.Omega.{arith}
use native.Mathlib.Nat.{mul-le-mul}
use Rattle.super_round.specs.Selector.{phase_by}
use Rattle.super_round.proofs.phase_by.Goals as goal

pub returns : goal.returns
unfolding phase_by
returns c = (refl, omega (arith, mul-le-mul c.requires.0 c.requires.1))
