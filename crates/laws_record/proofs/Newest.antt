-- The record of what was read of the newest edition is as long as the byte string. Assumes nothing.
use mathlib.Core.List.{List}
use mathlib.Core.Path.{◌≡◌, ap}
use Prim.Native.Nat.{ℕ}
use native.Mathlib.Omega.{arith}
use lib.ListN.{length}
use Rattle.record_layout.specs.Order.{edition, record_size}
use Rattle.state_words.specs.Words.{state_size}
use Rattle.record_read.specs.Format.{Held, layout_for}
use Rattle.record_read.specs.Read.{kept_by, kept_in, read_of, trailer_word}
use Rattle.record_read.specs.Read.Read.{Kept}
use Rattle.laws_record.proofs.Verdict.{whence}

-- of the newest edition as many bytes
pub newest_size : (bytes : List ℕ) (h : Held) → read_of bytes ≡ Kept h → trailer_word bytes 5 ≡ edition → record_size (layout_for h) ≡ length bytes
newest_size bytes h e newest = let all : kept_in bytes ≡ state_size = ap kept_by newest in omega (arith, (whence bytes h e).size, all)
