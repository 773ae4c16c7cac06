-- `line_steps::step_from` meets its contract: its word is what the call ensures. Assumes nothing.
use mathlib.Core.Path.{◌∙◌, ap, ap₂}
use native.Mathlib.Omega.{arith}
use lib.IntN.{ℤ}
use mir.Facts.{to_z-of_z}
use Rattle.int.proofs.Words.{back32}
use Rattle.int.specs.Word.{sub32}
use Rattle.line_steps.specs.Numbers.{step_from}
use Rattle.round.specs.declared.Tracked.{Tracked}
use Rattle.line_steps.proofs.step_from.Goals as goal

pub returns : goal.returns
unfolding step_from
returns c =
    let word : ℤ → Tracked = λ z. record { word = z; wrapped = c.args.r.wrapped } in
    ap word (back32 c.wrapping_sub.result c.wrapping_sub.type_inv ∙ c.wrapping_sub.ensures ∙ ap₂ sub32 (back32 c.args.r.word (omega arith)) (to_z-of_z c.ranges.own))
