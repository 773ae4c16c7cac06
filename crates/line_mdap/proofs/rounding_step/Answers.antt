-- `line_mdap::rounding_step` meets its contract: it is what its calls ensure, put together. Assumes nothing.
use Prim.Native.Nat.{◌^◌, ◌<◌}
use mathlib.Core.Path.{◌∙◌, ap₂}
use native.Mathlib.Omega.{arith}
use lib.Signed.{mag}
use mir.Facts.{to_z-of_z}
use Rattle.int.proofs.Words.{back32}
use Rattle.line_mdap.specs.Mdap.{rounding_step}
use Rattle.line_steps.specs.Numbers.{step_from}
use Rattle.round.proofs.Seen.{by_numbers}
use Rattle.line_mdap.proofs.rounding_step.Goals as goal
use Rattle.line_mdap.proofs.rounding_step.Goals.{Start}

-- the round state's three numbers fit
told : (s : Start) → let v = s.args.round in (mag v.threshold < 2 ^ 31) × (mag v.phase < 2 ^ 31) × (mag v.period < 2 ^ 31)
told s = omega arith

pub returns : goal.returns
unfolding rounding_step
returns c = let v = c.args.round in let k = told (goal.at.returns c).Start in let d = to_z-of_z c.ranges.d in
    c.step_from.ensures
    ∙ ap₂ step_from d (by_numbers v (back32 v.threshold k.0) (back32 v.phase k.1) (back32 v.period k.2) d c.round_by.ensures)
