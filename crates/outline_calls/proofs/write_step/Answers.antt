-- `outline_calls::write_step` meets its contract: by the step. Assumes nothing.
use mathlib.Core.Path.{sym, ap, ◌∙◌}
use mathlib.Core.List.{[], ◌∷◌}
use Rattle.outline_numbers.specs.declared.Step.{Step}
use Rattle.outline_calls.specs.Slots.{step_number}
use Rattle.outline_calls.proofs.Cases.{one_set}
use Rattle.outline_calls.proofs.write_step.Goals as goal

-- src/lib.rt:154:1
pub returns-in-Move : goal.returns-in-Move
returns-in-Move c =
    one_set c.args.step.now 1 c.requires ∙ sym (ap (λ (s : Step). step_number s ∷ []) c.in-Move.is)

-- src/lib.rt:154:1
pub returns-in-Line : goal.returns-in-Line
returns-in-Line c =
    one_set c.args.step.now 2 c.requires ∙ sym (ap (λ (s : Step). step_number s ∷ []) c.in-Line.is)

-- src/lib.rt:154:1
pub returns-in-Curve : goal.returns-in-Curve
returns-in-Curve c =
    one_set c.args.step.now 3 c.requires ∙ sym (ap (λ (s : Step). step_number s ∷ []) c.in-Curve.is)

-- src/lib.rt:154:1
pub returns-in-Close : goal.returns-in-Close
returns-in-Close c =
    one_set c.args.step.now 4 c.requires ∙ sym (ap (λ (s : Step). step_number s ∷ []) c.in-Close.is)
