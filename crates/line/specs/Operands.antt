-- Operands as a line reads them: document 01, "A sheet and its lines" (an index is an operand, widened with its sign). Assumes nothing.
use Rattle.std.specs.Prelude.{ℕ, ◌%◌, Bool, List, eqb, ℤ, pos, get_or}
use Rattle.int.specs.Word.{index_of}

abbrev pub is_odd : ℕ → Bool
is_odd opcode = eqb (opcode % 2) 1

-- an operand, widened with its sign and read as unsigned
abbrev pub index_at : List ℤ → ℕ → ℕ
index_at operands k = index_of (get_or operands k (pos 0))
