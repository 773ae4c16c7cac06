-- What a private function is held to: nobody need believe it. Assumes nothing.
use Rattle.std.specs.Prelude.{ℕ, cond, leb}

-- a number of lists, 15 at most
abbrev pub capped : ℕ → ℕ
capped k = cond (leb 15 k) 15 k
