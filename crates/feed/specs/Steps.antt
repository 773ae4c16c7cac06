-- A step of the functions that feed a sheet's words. Assumes nothing.
use Rattle.answer.specs.declared.Refusal.{Refusal}
use Rattle.std.specs.Prelude.{ℕ, ◌+◌, ◌≤◌, cond, List, ltb, ℤ, drop, length, ⊤, Result, Ok, Err}
use Rattle.graphics.specs.declared.GraphicsState.{GraphicsState}
use Rattle.feed_carry.specs.Steps.{Kept, fed, kept, rest_by}
use Rattle.feed_carry.specs.declared.Said.TheVariants.{Refused}
use Rattle.feed_look.specs.Look.{look_of, most_line}
use Rattle.feed_look.specs.Steps.{Counted}
use Rattle.run_lines.specs.declared.Answer.{Answer}
use Rattle.run_lines.specs.declared.Answer.TheVariants.{Finished, OutOfBudget}
use Rattle.run_lines.specs.declared.Answer.TheVariants.{Refused as RefusedRun}

-- a budget under which a run does the whole lines from a place on and no other: more than there can be among few words, or as many as were counted
pub data Runs (sheet : List ℤ) (at n : ℕ) : Type 0 where
  Few : length (drop at sheet) ≤ most_line → most_line ≤ n → Runs sheet at n
  Many : (end : ℕ) → Counted sheet at n end → Runs sheet at n

-- a run's refusal, where the line that it stopped at has so many words: none where it isn't whole
unfoldable pub refusal_by : Answer → ℕ → Result ⊤ Refusal
refusal_by (RefusedRun why) whole = cond (ltb 0 whole) (Err why) (Ok tt)
refusal_by Finished whole = Ok tt
refusal_by OutOfBudget whole = Ok tt

-- after the whole lines of a sheet, from a place of the feed on: the refusal, or the words that are left
unfoldable pub ran_by : ℕ → ℕ → ℕ → ℕ → GraphicsState → List ℤ → List ℤ → Result ⊤ Refusal → Kept
ran_by origin place lines finished s sheet carry (Err why) = kept (fed (Refused why) (origin + place) 0 (lines + finished) s) carry
ran_by origin place lines finished s sheet carry (Ok tt) = rest_by (origin + place) 0 (lines + finished) s (drop place sheet) carry (look_of (drop place sheet))
