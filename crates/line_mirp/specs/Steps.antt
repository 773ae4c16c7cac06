-- The control value that MIRP finds, as its private function says it. Nobody need believe this: `mirp_of` of Mirp.antt is what the line is held to. Assumes nothing.
use Rattle.answer.specs.declared.Refusal.{Refusal}
use Rattle.std.specs.Prelude.{ℕ, ◌-◌, cond, List, eqb, leb, ℤ, pos, get_or, length, ⊤, Result, Ok, Err}
use Rattle.answer.specs.declared.Refusal.TheVariants.{ControlValue}
use Rattle.graphics.specs.declared.Measures.{Measures}
use Rattle.line_distance.specs.Distance.{single_control}

unfoldable pub control_found : ℕ → List ℤ → Result ℤ Refusal
control_found next controls =
    cond (eqb next 0) (Ok (pos 0))
    (cond (leb next (length controls)) (Ok (get_or controls (next - 1) (pos 0))) (Err (ControlValue (next - 1))))

-- the value, or the single width where that is near, where both points are there too
abbrev pub mirp_found : Measures → Result ℤ Refusal → Result ⊤ Refusal → Result ℤ Refusal
mirp_found m (Err why) there = Err why
mirp_found m (Ok value) (Ok tt) = Ok (single_control m.single_width_cut_in m.single_width value)
mirp_found m (Ok value) (Err why) = Err why
