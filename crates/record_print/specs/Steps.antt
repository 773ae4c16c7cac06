-- A text written piece by piece over bytes: the steps that the private functions are held to. Nobody need believe them: what is printed is
-- `print_of`. Assumes nothing.
use Rattle.std.specs.Prelude.{ℕ, ◌+◌, List, [], ◌∷◌, ◌++◌, ◌≡◌, length}
use Rattle.std.proofs.lemmas.List.Edits.{sets}

-- a number's text and the byte behind it
abbrev pub ended_by : List ℕ → ℕ → List ℕ
ended_by t end = t ++ (end ∷ [])

-- `piece` stands at `at`, and `next` is the place behind it
pub record Put (piece : List ℕ) (at next : ℕ) (before after : List ℕ) : Type 0 where
  pub behind : next ≡ at + length piece
  pub there : after ≡ sets before at piece
