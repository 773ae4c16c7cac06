-- Which lines a run reaches and how many, and when two runs end alike along an axis: document 01, demand 3. Assumes nothing.
use Rattle.answer.specs.declared.Refusal.{Refusal}
use Rattle.std.specs.Prelude.{◌≡◌, Bool, true, cond, not, ◌&&◌, List, [], ◌∷◌, ℕ, zero, suc, ltb, ℤ, pos, length, get_or, ⊤, Result, Ok, Err}
use Rattle.int.specs.Word.{index_of}
use Rattle.line.specs.World.{Fixed, World}
use Rattle.laws_axes.specs.Axes.{world_seen}
use Rattle.flags.specs.declared.Axis.{Axis}
use Rattle.run_lines.specs.Onward.{Ran}
use Rattle.run_lines.specs.declared.Answer.{Answer}
use Rattle.run_lines.specs.declared.Answer.TheVariants.{Finished, OutOfBudget}
use Rattle.run_lines.specs.declared.Answer.TheVariants.{Refused as RefusedRun}
use Rattle.replay.specs.Run.{entered}
use Rattle.run_step.specs.Step.{Went, step_of}

-- the opcode word of the line at a place
abbrev pub opcode_at : List ℤ → ℕ → ℕ
opcode_at sheet at = index_of (get_or sheet at (pos 0))

-- a line that is refused is reached, and none after it
unfoldable pub after_call : (ℕ → World → List ℕ) → ℕ → World → Result ⊤ Refusal → List ℕ
after_call rest place w (Ok tt) = rest place w
after_call rest place w (Err why) = []

abbrev pub after_line : (ℕ → World → List ℕ) → Went → List ℕ
after_line rest g = after_call rest g.place g.world g.call

-- the opcodes of the lines that are reached from a place with this budget
unfoldable pub reached_from : Fixed → List ℤ → ℕ → ℕ → World → List ℕ
reached_from f sheet zero at w = []
reached_from f sheet (suc budget) at w =
    cond (ltb at (length sheet)) (opcode_at sheet at ∷ after_line (reached_from f sheet budget) (step_of f sheet at w)) []

unfoldable pub reached_on_entry : List ℕ → Result ⊤ Refusal → List ℕ
reached_on_entry reached (Ok tt) = reached
reached_on_entry reached (Err why) = []

-- a run that is refused at its entry reaches no line
unfoldable pub lines_reached : Fixed → List ℤ → ℕ → ℕ → World → List ℕ
lines_reached f sheet budget start w = reached_on_entry (reached_from f sheet budget start w) (entered f sheet start w)

-- none of them is such a line
abbrev pub none : (ℕ → Bool) → List ℕ → Bool
none such [] = true
none such (op ∷ ops) = not (such op) && none such ops

-- how many they are, by what the entry says, the answer and the count: the lines finished, and one more where a line was refused. A run refused
-- with no line finished was refused by its entry, which reaches none, or by its first line
unfoldable pub reached_by : Result ⊤ Refusal → Answer → ℕ → ℕ
reached_by (Ok tt) Finished finished = finished
reached_by (Ok tt) OutOfBudget finished = finished
reached_by (Ok tt) (RefusedRun why) finished = suc finished
reached_by (Err why) answer finished = 0

-- two runs that end alike along an axis: the answer with its detail, the place, the count, and of the worlds the state, the flags and the coordinates
-- along the axis, of both zones
pub record SameAlong (a : Axis) (r s : Ran) : Type 0 where
  pub answer : r.answer ≡ s.answer
  pub place : r.place ≡ s.place
  pub lines : r.lines ≡ s.lines
  pub worlds : world_seen a r.world ≡ world_seen a s.world
