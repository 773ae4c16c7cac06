-- Little-endian 32-bit words in a list of bytes: document 02, K4. Assumes nothing.
use Rattle.std.specs.Prelude.{ℕ, ◌+◌, ◌*◌, cond, List, length, nat_le, slice_index}

-- four bytes, lowest first
abbrev pub joined : ℕ → ℕ → ℕ → ℕ → ℕ
joined a b c d = a + b * 256 + c * 65536 + d * 16777216

-- the word that starts at a byte; 0 where it is not whole
abbrev pub word_at : List ℕ → ℕ → ℕ
word_at bytes at =
    cond (nat_le (at + 4) (length bytes))
    (joined (slice_index bytes at) (slice_index bytes (at + 1)) (slice_index bytes (at + 2)) (slice_index bytes (at + 3)))
    0
