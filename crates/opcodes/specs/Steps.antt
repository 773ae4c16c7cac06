-- An entry of the table of 256 numbers read back, as a private function says it. Nobody need believe this: `operands_of` of Table.antt is what a line is
-- held to. Assumes nothing.
use Rattle.std.specs.Prelude.{ℕ, suc, cond, eqb}

-- how many operands an entry means, with this loop counter
abbrev pub takes_by : ℕ → ℕ → ℕ
takes_by need counter = cond (eqb need 254) counter (cond (eqb need 253) (suc counter) need)
