-- What a run of lines does from a place on: document 01, "A sheet and its lines" and "What the replayer says back". Assumes nothing.
use Rattle.answer.specs.declared.Refusal.{Refusal}
use Rattle.std.specs.Prelude.{ℕ, zero, suc, cond, List, ltb, ℤ, length, ⊤, Result, Ok, Err}
use Rattle.answer.specs.Answer.{number_of, detail_of}
use Rattle.run_step.specs.Step.{Went, step_of}
use Rattle.line.specs.World.{Fixed, World, world}
use Rattle.run_lines.specs.declared.Answer.{Answer}
use Rattle.run_lines.specs.declared.Answer.TheVariants.{Finished, OutOfBudget, Refused}
use Rattle.run_lines.specs.declared.Outcome.{Outcome}

-- ---- the answer's number and detail
abbrev pub number_of_answer : Answer → ℕ
number_of_answer Finished = 0
number_of_answer OutOfBudget = 1
number_of_answer (Refused why) = number_of why

abbrev pub detail_of_answer : Answer → ℕ
detail_of_answer Finished = 0
detail_of_answer OutOfBudget = 0
detail_of_answer (Refused why) = detail_of why

-- ---- a run
-- the answer, the place, the lines finished, and the world
pub record Ran : Type 0 where
  pub answer : Answer
  pub place : ℕ
  pub lines : ℕ
  pub world : World

abbrev pub ran : Outcome → List ℤ → List ℤ → List ℕ → List ℤ → List ℤ → List ℤ → List ℤ → List ℕ → Ran
ran r gx gy gflags tox toy tx ty tflags =
    record { answer = r.answer; place = r.place; lines = r.lines; world = world r.state gx gy gflags tox toy tx ty tflags }

abbrev pub ends : Answer → ℕ → ℕ → World → Ran
ends answer lines place w = record { answer = answer; place = place; lines = lines; world = w }

-- after a line: the rest of the run, or its end
unfoldable pub on_call : (ℕ → World → Ran) → ℕ → ℕ → World → Result ⊤ Refusal → Ran
on_call rest lines place w (Ok tt) = rest place w
on_call rest lines place w (Err why) = ends (Refused why) lines place w

abbrev pub on_went : (ℕ → World → Ran) → ℕ → Went → Ran
on_went rest lines g = on_call rest lines g.place g.world g.call

-- the lines from a place on, with this budget, where so many were finished before: 0 at the sheet's end, 1 where words remain and the budget is used
unfoldable pub replay_of : Fixed → List ℤ → ℕ → ℕ → ℕ → World → Ran
replay_of f sheet zero lines at w = cond (ltb at (length sheet)) (ends OutOfBudget lines at w) (ends Finished lines at w)
replay_of f sheet (suc budget) lines at w =
    cond (ltb at (length sheet)) (on_went (replay_of f sheet budget (suc lines)) lines (step_of f sheet at w)) (ends Finished lines at w)
