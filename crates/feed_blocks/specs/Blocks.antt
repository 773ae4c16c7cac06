-- Words in bytes that arrive by the block, four bytes each, the low one first: document 02, K11, with K4's words. Assumes nothing.
use Rattle.std.specs.Prelude.{ℕ, ◌*◌, ◌/◌, List, ◌++◌, ◌≡◌, ℤ, drop, length}
use Rattle.words.specs.Lists.{numbers_of, part}

-- the whole words of some bytes
abbrev pub words_in : List ℕ → List ℤ
words_in bytes = numbers_of (part bytes 0 (length bytes / 4))

-- the bytes behind them, three at most: a word that is begun
abbrev pub begun_in : List ℕ → List ℕ
begun_in bytes = drop (length bytes / 4 * 4) bytes

-- behind the bytes of a word that was begun a block arrived: these are the words then, and the bytes of the one that is begun now
pub record Came (begun : List ℕ) (words : List ℤ) (begun' : List ℕ) : Type 0 where
  pub block : List ℕ
  pub words_are : words ≡ words_in (begun ++ block)
  pub begun_are : begun' ≡ begun_in (begun ++ block)
