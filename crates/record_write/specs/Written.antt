-- What a writer leaves: document 02, K4 and K5. Assumes nothing.
use Rattle.std.specs.Prelude.{ℕ, Bool, cond, ◌&&◌, List, ◌++◌, leb, drop, length}
use Rattle.line.specs.Sizes.{world_fits}
use Rattle.record_layout.specs.Order.{record_size}
use Rattle.record_read.specs.Format.{Held, layout_for, record_of}

abbrev pub size_for : Held → ℕ
size_for h = record_size (layout_for h)

-- the lists make zones within document 01's sizes, and the record has at most so many bytes and has room
unfoldable pub can_write : ℕ → Held → ℕ → Bool
can_write most h room = world_fits h.fixed h.sheet h.world && leb (size_for h) most && leb (size_for h) room

-- how many bytes were written, and what the bytes then are
pub record Wrote : Type 0 where
  pub size : ℕ
  pub bytes : List ℕ

abbrev pub wrote : ℕ → List ℕ → Wrote
wrote size bytes = record { size = size; bytes = bytes }

-- the record at the front of the bytes, or nothing
unfoldable pub write_of : ℕ → Held → List ℕ → Wrote
write_of most h bytes = cond (can_write most h (length bytes)) (wrote (size_for h) (record_of h ++ drop (size_for h) bytes)) (wrote 0 bytes)
