-- What a run of a sheet does: its entry, and then the lines. Document 01, "A sheet and its lines" and "What the replayer says back". Assumes nothing.
use Rattle.std.specs.Prelude.{ℕ, Bool, cond, List, leb, ℤ, length, ⊤, Result, Ok, Err}
use Rattle.answer.specs.declared.Refusal.{Refusal}
use Rattle.answer.specs.declared.Refusal.TheVariants.{Ends, Line, Sizes, State}
use Rattle.contour_ends.specs.Ends.{ends_rise}
use Rattle.graphics.specs.State.{usable_state}
use Rattle.graphics.specs.declared.GraphicsState.{GraphicsState}
use Rattle.line.specs.Sizes.{world_fits}
use Rattle.line.specs.World.{Fixed, World}
use Rattle.run_lines.specs.Onward.{Ran, ends, replay_of}
use Rattle.run_lines.specs.declared.Answer.TheVariants.{Refused}
use Rattle.run_lines.specs.declared.Outcome.{Outcome}

abbrev pub entry_refused : Refusal → ℕ → GraphicsState → Outcome
entry_refused why start s = record { answer = Refused why; place = start; lines = 0; state = s }

-- what is tested before the first line, in this order: the sizes, the contours' ends (document 02, K8), the state, and that the start is a place of the sheet or its end
unfoldable pub entry_of : Bool → Bool → Bool → Bool → Result ⊤ Refusal
entry_of sized rising usable starts =
    cond sized (cond rising (cond usable (cond starts (Ok tt) (Err Line)) (Err State)) (Err Ends)) (Err Sizes)

abbrev pub entered : Fixed → List ℤ → ℕ → World → Result ⊤ Refusal
entered f sheet start w = entry_of (world_fits f sheet w) (ends_rise (length w.gx) f.contours) (usable_state w.state) (leb start (length sheet))

unfoldable pub on_entry : Fixed → List ℤ → ℕ → ℕ → World → Result ⊤ Refusal → Ran
on_entry f sheet budget start w (Ok tt) = replay_of f sheet budget 0 start w
on_entry f sheet budget start w (Err why) = ends (Refused why) 0 start w

-- a run from a place of the sheet; one that is refused at its entry changes nothing
unfoldable pub run_of : Fixed → List ℤ → ℕ → ℕ → World → Ran
run_of f sheet budget start w = on_entry f sheet budget start w (entered f sheet start w)
