-- What every row's line has, an opcode's line has: by induction on the table of opcodes. Assumes nothing.
use Prim.Native.Nat.{ℕ}
use mathlib.Core.Bool.{Bool, cond, false, true, ◌&&◌}
use mathlib.Core.List.{List, [], ◌∷◌}
use mathlib.Core.Path.{◌≡◌, refl}
use lib.Dec.{leb}
use Rattle.line_set.specs.Setters.{set_of}
use Rattle.opcodes.specs.Table.{Line, Row, has, row_in}

-- an opcode from this one to that
abbrev pub within : ℕ → ℕ → ℕ → Bool
within first last op = leb first op && leb op last

-- each row's line for the opcodes that it has, in the table's order, and the setters' where no row has the opcode
pub data RowsHave (P : ℕ → Line → Type 0) : List Row → Type 0 where
  elsewhere : ((op : ℕ) → P op set_of) → RowsHave P []
  ◌▸◌ : {r : Row} {more : List Row} → ((op : ℕ) → has r op ≡ true → P op r.line) → RowsHave P more → RowsHave P (r ∷ more)

infixr 5 ◌▸◌
by_test : (P : ℕ → Line → Type 0) (op : ℕ) (r s : Row) (t : Bool) → has r op ≡ t → (has r op ≡ true → P op r.line) → P op s.line → P op (cond t r s).line
by_test P op r s true e h k = h e
by_test P op r s false e h k = k

pub row_has : (P : ℕ → Line → Type 0) (table : List Row) → RowsHave P table → (op : ℕ) → P op (row_in table op).line
row_has P [] (elsewhere h) op = h op
row_has P (r ∷ more) (h ▸ k) op = by_test P op r (row_in more op) (has r op) refl (h op) (row_has P more k op)
