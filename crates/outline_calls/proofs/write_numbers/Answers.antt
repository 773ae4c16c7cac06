-- `outline_calls::write_numbers` meets its contract: by the step. Assumes nothing.
use mathlib.Core.Path.{sym, ap, ◌∙◌}
use Rattle.outline_calls.specs.Slots.{numbers_of}
use Rattle.outline_calls.proofs.write_numbers.Goals as goal

-- src/lib.rt:196:1
pub returns-in-Move : goal.returns-in-Move
returns-in-Move c = c.write_four.ensures ∙ sym (ap numbers_of c.in-Move.is)

-- src/lib.rt:196:1
pub returns-in-Line : goal.returns-in-Line
returns-in-Line c = c.write_four-in-Line.ensures ∙ sym (ap numbers_of c.in-Line.is)

-- src/lib.rt:196:1
pub returns-in-Curve : goal.returns-in-Curve
returns-in-Curve c = c.write_four-in-Curve.ensures ∙ sym (ap numbers_of c.in-Curve.is)

-- src/lib.rt:196:1
pub returns-in-Close : goal.returns-in-Close
returns-in-Close c = c.write_four-in-Close.ensures ∙ sym (ap numbers_of c.in-Close.is)
