-- A sheet that arrives by the block, fed to a record: document 02, K11 and K4. Assumes nothing.
use Rattle.std.specs.Prelude.{ℕ, List, [], ◌≡◌, pos, ℤ, replicate}
use Rattle.rules.specs.declared.Rules.{Rules}
use Rattle.feed_look.specs.Look.{most_line}
use Rattle.record_layout.specs.declared.Layout.{Layout}
use Rattle.record_read.specs.Format.{Held, held, layout_for}
use Rattle.record_read.specs.Read.{Read, read_of}
use Rattle.record_read.specs.Read.Read.{Kept, Refused}
use Rattle.record_run.specs.After.{Shelved, shelved}
use Rattle.record_replay.specs.Shelf.{refused_as}
use Rattle.feed_arriving.specs.Arriving.{fed_shelf}

-- a carry in which nothing waits
unfoldable pub no_words : List ℤ
no_words = replicate most_line (pos 0)

-- how the lists of what is held lie in a record without a sheet
abbrev pub bare_for : Held → Layout
bare_for h = layout_for (held h.fixed [] h.world)

unfoldable pub fed_on_read : Rules → ℕ → List (List ℕ) → List ℕ → Read → Shelved
fed_on_read rules most blocks out (Kept h) = fed_shelf rules most (bare_for h) h no_words blocks out
fed_on_read rules most blocks out (Refused n) = shelved (refused_as n) out

-- the record's own sheet first, then the words of the blocks; of a byte string that is no record its number and three zeros
unfoldable pub fed_record : Rules → ℕ → List ℕ → List (List ℕ) → List ℕ → Shelved
fed_record rules most bytes blocks out = fed_on_read rules most blocks out (read_of bytes)

-- so it is said and left, for some blocks: those that were read
pub record FedRecord (rules : Rules) (most : ℕ) (bytes out : List ℕ) (s : Shelved) : Type 0 where
  pub blocks : List (List ℕ)
  pub is : s ≡ fed_record rules most bytes blocks out
