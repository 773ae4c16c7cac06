-- Frames: the length of a text as a word of four bytes, the low byte first, and the text. Assumes nothing.
use Rattle.std.specs.Prelude.{ℕ, ◌+◌, List, [], ◌∷◌, ◌++◌, ◌≡◌, length, take, drop}
use Rattle.words.specs.Lists.{bytes_of_word}
use Rattle.rules.specs.declared.Rules.{Rules}
use Rattle.record_layout.specs.Order.{most_bytes}
use Rattle.record_print.specs.Print.{print_of}

unfoldable pub framed : List ℕ → List ℕ
framed text = bytes_of_word (length text) ++ text

-- what a stream of records is answered by: the frame of each one's print, in their order
abbrev pub answers_of : Rules → List (List ℕ) → List ℕ
answers_of rules [] = []
answers_of rules (r ∷ rs) = framed (print_of rules r) ++ answers_of rules rs

-- so many bytes of a record are kept: one more than the longest has, so that a longer one is refused as too long
abbrev pub record_room : ℕ
record_room = most_bytes + 1

-- a length, and the longest text: no record's print has more than 24,576 bytes
abbrev pub frame_room : ℕ
frame_room = 24580

-- `piece` stands at `at`, `next` is the place behind it, and all else is as it was
pub record Put (piece : List ℕ) (at next : ℕ) (before after : List ℕ) : Type 0 where
  pub behind : next ≡ at + length piece
  pub there : after ≡ take at before ++ piece ++ drop next before
