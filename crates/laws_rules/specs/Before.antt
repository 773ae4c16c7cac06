-- What a run gave before the rules had names (document 02, K9): MSIRP's definition as it stood until then, and a run by a table that has it. Prints that were made
-- before then are of this run, and the rules `skrifa` are it: proofs/Before.antt. Assumes nothing.
use Rattle.opcodes.specs.declared.Operands.{Operands}
use Rattle.answer.specs.declared.Refusal.{Refusal}
use Rattle.std.specs.Prelude.{ℕ, suc, zero, ◌-◌, Bool, cond, ◌&&◌, List, map, eqb, leb, ltb, ℤ, drop, length, take, ⊤, Result, Ok, Err}
use Rattle.int.specs.Word.{index_of, sub32}
use Rattle.line.specs.Operands.{is_odd}
use Rattle.line.specs.World.{Fixed, Lined, World}
use Rattle.line_msirp.specs.Msirp.{made_place}
use Rattle.line_relative.specs.Relative.{both_there, related}
use Rattle.line_steps.specs.Steps.{done_in, made_in, move_in, passed_over, point_in, two}
use Rattle.opcodes.specs.Decode.{decode_of}
use Rattle.opcodes.specs.Table.{Line, Row, row, row_in, rows}
use Rattle.projection.specs.Projection.{project_of}
use Rattle.replay.specs.Run.{entered}
use Rattle.run_lines.specs.Onward.{Ran, ends, on_went}
use Rattle.run_lines.specs.declared.Answer.TheVariants.{Finished, OutOfBudget, Refused}
use Rattle.run_step.specs.Step.{Went, landed_in}
use Rattle.zone.specs.Zone.{place_of}

-- ---- the line, as it stood: a twilight point's original is moved from where it is
unfoldable pub msirp_before : Line
msirp_before f opcode operands w =
    two operands w λ distance point.
    let s = w.state in
    let zone = s.pointers.zp1 in
    let at = index_of point in
    let made = made_in at (made_place s.vectors distance (place_of w.tox w.toy at)) w zone in
    both_there at w (passed_over w)
    (point_in zone at made λ place.
    point_in s.pointers.zp0 s.references.rp0 made λ reference.
    move_in zone (sub32 distance (project_of s.vectors place reference)) at made λ moved.
    done_in (related (is_odd opcode) at moved))
    zone

-- ---- the table of opcodes, with that line in MSIRP's row
abbrev pub first_msirp : ℕ
first_msirp = 0x3A

abbrev pub row_before : Row → Row
row_before r = row r.first r.last r.takes (cond (eqb r.first first_msirp) msirp_before r.line)

unfoldable pub line_before : Line
line_before f opcode operands w = (row_in (map row_before rows) opcode).line f opcode operands w

-- ---- a run by any lines: the text of `step_of`, `replay_of` and `run_of` with the lines as an argument
module _ (line : Line) where
  unfoldable pub on_decoded_by : Fixed → List ℤ → ℕ → World → Result Operands Refusal → Went
  on_decoded_by f sheet at w (Ok read) = landed_in at read.end (line f read.opcode (take (read.end - read.first) (drop read.first sheet)) w)
  on_decoded_by f sheet at w (Err why) = record { call = Err why; place = at; world = w }

  unfoldable pub step_by : Fixed → List ℤ → ℕ → World → Went
  step_by f sheet at w = on_decoded_by f sheet at w (decode_of sheet w.state.loop_counter at)

  unfoldable pub replay_by : Fixed → List ℤ → ℕ → ℕ → ℕ → World → Ran
  replay_by f sheet zero lines at w = cond (ltb at (length sheet)) (ends OutOfBudget lines at w) (ends Finished lines at w)
  replay_by f sheet (suc budget) lines at w =
      cond (ltb at (length sheet)) (on_went (replay_by f sheet budget (suc lines)) lines (step_by f sheet at w)) (ends Finished lines at w)

  unfoldable pub on_entry_by : Fixed → List ℤ → ℕ → ℕ → World → Result ⊤ Refusal → Ran
  on_entry_by f sheet budget start w (Ok tt) = replay_by f sheet budget 0 start w
  on_entry_by f sheet budget start w (Err why) = ends (Refused why) 0 start w

  unfoldable pub run_by : Fixed → List ℤ → ℕ → ℕ → World → Ran
  run_by f sheet budget start w = on_entry_by f sheet budget start w (entered f sheet start w)

-- a run as it was
abbrev pub run_before : Fixed → List ℤ → ℕ → ℕ → World → Ran
run_before = run_by line_before

-- ---- the lines that the rules change
abbrev pub ruled : ℕ → Bool
ruled opcode = leb first_msirp opcode && leb opcode 0x3B
