-- A run of what a record holds, and what is written of it: document 02, K4 and K5. Assumes nothing.
use Rattle.std.specs.Prelude.{ℕ, List, ℤ, length}
use Rattle.line.specs.World.{World, under, world}
use Rattle.rules.specs.declared.Rules.{Rules}
use Rattle.run_lines.specs.Onward.{Ran, number_of_answer, detail_of_answer}
use Rattle.run_lines.specs.declared.Outcome.{Outcome}
use Rattle.replay.specs.Run.{run_of}
use Rattle.record_layout.specs.declared.Layout.{Layout}
use Rattle.record_read.specs.Format.{Held, held}
use Rattle.record_write.specs.Written.{Wrote, write_of}
use Rattle.record_run.specs.declared.Replayed.{Replayed}

-- what is said, and the bytes afterwards
pub record Shelved : Type 0 where
  pub said : Replayed
  pub out : List ℕ

abbrev pub shelved : Replayed → List ℕ → Shelved
shelved said out = record { said = said; out = out }

-- "The start is 0, the budget the sheet's word count." By which rules is the caller's choice: a record holds none
abbrev pub ran_from : Rules → Held → Ran
ran_from rules h = run_of (under rules h.fixed) h.sheet (length h.sheet) 0 h.world

-- "the record as it stands after the replay"
abbrev pub after : Rules → Held → Held
after rules h = held h.fixed h.sheet (ran_from rules h).world

-- the world after the run, with these lists in the place of its own
abbrev pub left_with : Rules → Held → List ℤ → List ℤ → List ℕ → List ℤ → List ℤ → List ℤ → List ℤ → List ℕ → World
left_with rules h gx gy gflags tox toy tx ty tflags = world (ran_from rules h).world.state gx gy gflags tox toy tx ty tflags

-- number, place, lines and detail, the bytes that are written, and how the lists lie in them
abbrev pub said_of : Layout → Ran → ℕ → Replayed
said_of l r size =
    record { number = number_of_answer r.answer; place = r.place; lines = r.lines; detail = detail_of_answer r.answer; size = size; layout = l }

-- the same of what `run` hands back
abbrev pub told : Layout → Outcome → ℕ → Replayed
told l r size =
    record { number = number_of_answer r.answer; place = r.place; lines = r.lines; detail = detail_of_answer r.answer; size = size; layout = l }

abbrev pub shelved_as : Layout → Ran → Wrote → Shelved
shelved_as l r w = shelved (said_of l r w.size) w.bytes

-- of at most so many bytes
abbrev pub shelved_for : Rules → ℕ → Layout → Held → List ℕ → Shelved
shelved_for rules most l h out = shelved_as l (ran_from rules h) (write_of most (after rules h) out)
