-- What a replay of a record says and leaves: document 02, K4 and K5. Assumes nothing.
use Rattle.std.specs.Prelude.{ℕ, List}
use Rattle.rules.specs.declared.Rules.{Rules}
use Rattle.state_words.specs.Words.{state_size}
use Rattle.record_layout.specs.Order.{most_bytes}
use Rattle.record_read.specs.Format.{layout, layout_for}
use Rattle.record_read.specs.Read.{Read, read_of}
use Rattle.record_read.specs.Read.Read.{Kept, Refused}
use Rattle.record_run.specs.After.{Shelved, shelved, shelved_for}
use Rattle.record_run.specs.declared.Replayed.{Replayed}

-- "its number and three zeros alone, and the writer then writes nothing"
abbrev pub refused_as : ℕ → Replayed
refused_as n = record { number = n; place = 0; lines = 0; detail = 0; size = 0; layout = layout state_size 0 0 0 0 0 }

unfoldable pub on_read : Rules → ℕ → List ℕ → Read → Shelved
on_read rules most out (Kept h) = shelved_for rules most (layout_for h) h out
on_read rules most out (Refused n) = shelved (refused_as n) out

-- by these rules, with a record of at most so many bytes
unfoldable pub shelf_within : Rules → ℕ → List ℕ → List ℕ → Shelved
shelf_within rules most bytes out = on_read rules most out (read_of bytes)

-- "The newest edition is written, or nothing where that passes 24 KiB."
abbrev pub shelf_of : Rules → List ℕ → List ℕ → Shelved
shelf_of rules bytes out = shelf_within rules most_bytes bytes out
