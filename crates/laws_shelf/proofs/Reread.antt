-- What a replay leaves reads back as what it left: `replayed_reads` and Rewritten.antt's `rewritten_same` hold of every record that is read,
-- where its newest edition has 24 KiB at most; one that is of the newest edition does. Assumes nothing.
use mathlib.Core.List.{List, ◌++◌}
use mathlib.Core.Path.{◌∙◌, ◌≡◌, ap, sym}
use Prim.Native.Nat.{◌≤◌, ℕ}
use native.Mathlib.Omega.{arith}
use lib.ListN.{drop, length, take}
use lib.Seq.{take-append_seam}
use Rattle.words.proofs.Back.{Bytes}
use Rattle.record_layout.specs.Order.{most_bytes, record_size}
use Rattle.record_read.specs.Format.{Held, layout_for, record_of}
use Rattle.record_read.specs.Read.{read_of}
use Rattle.record_read.specs.Read.Read.{Kept}
use Rattle.laws_record.proofs.Keepable.{Keepable}
use Rattle.laws_record.proofs.ReadKeepable.{read_keepable}
use Rattle.laws_record.proofs.Round.{kept_as_written, record_long}
use Rattle.laws_widths.proofs.Run.{run_in_width}
use Rattle.record_write.specs.Written.{size_for}
use Rattle.record_run.specs.After.{Shelved, after}
use Rattle.record_replay.specs.Shelf.{shelf_of}
use Rattle.laws_shelf.proofs.Shelved.{after_fits, after_layout, shelved_whole}
use Rattle.line.specs.World.{Fixed, under}
use Rattle.rules.specs.declared.Rules.{Rules}
use Rattle.record_read.proofs.Widths.{FixedInWidth}
use Rattle.laws_shelf.proofs.Written.{written}

-- rules are no numbers
under_fits : {rules : Rules} {f : Fixed} → FixedInWidth f → FixedInWidth (under rules f)
under_fits k = record { controls = k.controls; gux = k.gux; guy = k.guy; gox = k.gox; goy = k.goy; contours = k.contours }

module _ (rules : Rules) where
  -- what a record can hold, it can hold after its replay: a run keeps every length and every width
  pub after_keepable : (h : Held) → Keepable h → Keepable (after rules h)
  after_keepable h k =
      let size : record_size (layout_for (after rules h)) ≡ record_size (layout_for h) = ap record_size (after_layout rules h) in
      record {
        rules = k.rules;
        sizes = after_fits rules h ∙ k.sizes;
        short = omega (arith, size, k.short);
        widths = record {
          fixed = k.widths.fixed;
          sheet = k.widths.sheet;
          world = run_in_width (under rules h.fixed) h.sheet (length h.sheet) 0 h.world (under_fits k.widths.fixed) k.widths.sheet k.widths.world;
        };
      }

  -- ---- a record whose newest edition has 24 KiB at most, and room
  module _ (bytes out : List ℕ) (h : Held) (f : Bytes bytes) (e : read_of bytes ≡ Kept h) (short : size_for h ≤ most_bytes) (room : size_for h ≤ length out) where
    left_keepable : Keepable (after rules h)
    left_keepable = after_keepable h (read_keepable bytes f h e short)

    -- what is written is the record of what the replay leaves
    pub written_is : written (shelf_of rules bytes out) ≡ record_of (after rules h)
    written_is =
        let rest = drop (size_for h) out in
        let long : length (record_of (after rules h)) ≡ size_for h = record_long (after rules h) left_keepable ∙ ap record_size (after_layout rules h) in
        ap written (shelved_whole rules most_bytes bytes out h e short room)
        ∙ ap (λ (n : ℕ). take n (record_of (after rules h) ++ rest)) (sym long)
        ∙ take-append_seam (record_of (after rules h)) rest

    -- it reads back as what the replay leaves
    pub replayed_reads : read_of (written (shelf_of rules bytes out)) ≡ Kept (after rules h)
    replayed_reads = ap read_of written_is ∙ kept_as_written (after rules h) left_keepable
