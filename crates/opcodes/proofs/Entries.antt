-- The table of 256 numbers beside the rows: an entry is that of its opcode's row, and read back it is what the row takes. Assumes nothing.
use Prim.Native.Nat.{ℕ, zero, suc, ◌+◌, ◌≤◌, ◌<◌}
use mathlib.Core.Bool.{Bool, ◌&&◌, true}
use mathlib.Core.List.{List, [], ◌∷◌}
use mathlib.Core.Path.{◌≡◌, ap, refl, sym, ◌∙◌}
use native.Mathlib.Nat.{add-suc, add-zero, le_of_suc-le-suc, not-suc-le-zero, suc-add, zero-add}
use native.Mathlib.Omega.{arith}
use borrow.Author.Tests.{ltb-true, ne_eqb}
use lib.Dec.{ltb}
use lib.ListN.{get_or, length}
use Rattle.graphics.proofs.Laws.{and_left, and_right}
use Rattle.int.proofs.Tests.{either}
use Rattle.opcodes.specs.Steps.{takes_by}
use Rattle.opcodes.specs.Table.{AsLooped, Exactly, OneAndLooped, Row, Takes, Unknown, table_entry, has, need_of, needs_from, needs_table, operands_of, row_in, row_of, rows, unknown}

-- ---- an entry
entries : (i n : ℕ) → length (needs_from i n) ≡ n
entries i zero = refl
entries i (suc n) = ap suc (entries (suc i) n)

from : (i n k : ℕ) → k < n → get_or (needs_from i n) k 0 ≡ need_of (i + k)
from i zero k h = absurd (not-suc-le-zero h)
from i (suc n) zero h = ap need_of (sym (add-zero i))
from i (suc n) (suc k) h = from (suc i) n k (le_of_suc-le-suc h) ∙ ap need_of (suc-add i k ∙ sym (add-suc i k))

module _ (op : ℕ) (h : op ≤ 255) {table : List ℕ} (e : table ≡ needs_table) where
  pub in_table : op < length table
  unfolding needs_table
  in_table = rw e (rw (entries 0 256) (omega arith))

  pub entry_in : get_or table op 0 ≡ need_of op
  unfolding needs_table
  entry_in = ap (λ (l : List ℕ). get_or l op 0) e ∙ from 0 256 op (omega arith) ∙ ap need_of (zero-add op)

-- ---- read back
-- a row's number of operands isn't a number that means something else
abbrev plain : Takes → Bool
plain (Exactly n) = ltb n 253
plain AsLooped = true
plain OneAndLooped = true
plain Unknown = true

abbrev all_plain : List Row → Bool
all_plain [] = true
all_plain (r ∷ more) = plain r.takes && all_plain more

plain_in : (rs : List Row) → all_plain rs ≡ true → (op : ℕ) → plain (row_in rs op).takes ≡ true
plain_in [] t op = refl
plain_in (r ∷ more) t op =
    either (λ (row : Row). plain row.takes ≡ true) (has r op) (and_left (plain r.takes) (all_plain more) t)
    (plain_in more (and_right (plain r.takes) (all_plain more) t) op)

back : (t : Takes) → plain t ≡ true → (table_entry t ≡ unknown → ⊥) → (counter : ℕ) → takes_by (table_entry t) counter ≡ operands_of t counter
back (Exactly n) p u counter = let less = ltb-true n 253 p in rw (ne_eqb n 254 (λ e. omega (arith, less, e)), ne_eqb n 253 (λ e. omega (arith, less, e)))
back AsLooped p u counter = refl
back OneAndLooped p u counter = refl
back Unknown p u counter = absurd (u refl)

pub takes_back : (op : ℕ) → (need_of op ≡ unknown → ⊥) → (counter : ℕ) → takes_by (need_of op) counter ≡ operands_of (row_of op).takes counter
unfolding need_of row_of
takes_back op u = back (row_of op).takes (plain_in rows refl op) u
