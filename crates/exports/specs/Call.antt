-- What a call from C returns and leaves: a run of document 01 on the state that the words stand for (document 02, K4), or 16, "a word out of
-- its range". Assumes nothing.
use Rattle.std.specs.Prelude.{ℕ, Bool, cond, ◌&&◌, List, [], ◌∷◌, eqb, ℤ, length, Option, Some, None}
use Rattle.line.specs.World.{Fixed, world}
use Rattle.rules.specs.declared.Rules.{Rules}
use Rattle.run_lines.specs.Onward.{Ran, number_of_answer, detail_of_answer}
use Rattle.replay.specs.Run.{run_of}
use Rattle.state_words.specs.Words.{state_words, state_of, is_state}
use Rattle.feed_calls.specs.Left.{Left, bad_word, left, refused_call}

-- number, place, lines and detail, where there are places for exactly these
abbrev pub answer_size : ℕ
answer_size = 4

unfoldable pub answered : ℕ → ℕ → ℕ → ℕ → List ℕ → List ℕ
answered number place lines detail old = cond (eqb (length old) answer_size) (number ∷ place ∷ lines ∷ detail ∷ []) old

unfoldable pub is_call : List ℕ → List ℕ → Bool
is_call words answer = is_state words && eqb (length answer) answer_size

-- what a run leaves
abbrev pub handed_back : Ran → Left
handed_back r =
    let number = number_of_answer r.answer in
    let w = r.world in
    left number (state_words w.state) (number ∷ r.place ∷ r.lines ∷ detail_of_answer r.answer ∷ []) w.gx w.gy w.gflags w.tox w.toy w.tx w.ty w.tflags

-- a number that names no rules, words that are no state, or an answer that is not four long, are refused
unfoldable pub call_of : (Rules → Fixed) → List ℤ → ℕ → ℕ → List ℕ → List ℕ → List ℤ → List ℤ → List ℕ → List ℤ → List ℤ → List ℤ → List ℤ → List ℕ → Option Rules → Left
call_of f sheet budget start words answer gx gy gflags tox toy tx ty tflags None = refused_call words (answered bad_word start 0 0 answer) gx gy gflags tox toy tx ty tflags
call_of f sheet budget start words answer gx gy gflags tox toy tx ty tflags (Some rules) =
    cond (is_call words answer)
    (handed_back (run_of (f rules) sheet budget start (world (state_of words) gx gy gflags tox toy tx ty tflags)))
    (refused_call words (answered bad_word start 0 0 answer) gx gy gflags tox toy tx ty tflags)
