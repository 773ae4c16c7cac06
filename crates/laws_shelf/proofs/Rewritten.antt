-- What is read from what a replay leaves is written as the same bytes. Assumes nothing.
use mathlib.Core.List.{List}
use mathlib.Core.Path.{◌∙◌, ◌≡◌, ap, sym}
use Prim.Native.Nat.{◌≤◌, ℕ}
use lib.ListN.{length}
use Rattle.words.proofs.Back.{Bytes}
use Rattle.record_layout.specs.Order.{most_bytes}
use Rattle.record_read.specs.Format.{Held, record_of}
use Rattle.record_read.specs.Read.{read_of}
use Rattle.record_read.specs.Read.Read.{Kept}
use Rattle.record_write.specs.Written.{size_for}
use Rattle.record_run.specs.After.{after}
use Rattle.record_replay.specs.Shelf.{shelf_of}
use Rattle.rules.specs.declared.Rules.{Rules}
use Rattle.laws_shelf.proofs.Written.{written}
use Rattle.laws_shelf.proofs.Reread.{replayed_reads, written_is}

module _ (rules : Rules) where
  module _ (bytes out : List ℕ) (h : Held) (f : Bytes bytes) (e : read_of bytes ≡ Kept h) (short : size_for h ≤ most_bytes) (room : size_for h ≤ length out) where
    -- and what is read from it is written as the same bytes
    pub rewritten_same : (g : Held) → read_of (written (shelf_of rules bytes out)) ≡ Kept g → record_of g ≡ written (shelf_of rules bytes out)
    rewritten_same g r =
        let same : after rules h ≡ g = cc (replayed_reads rules bytes out h f e short room, r) in
        ap record_of (sym same) ∙ sym (written_is rules bytes out h f e short room)
