-- A record that is read is written whole after its replay, in the newest edition: a run keeps the length of every list, so what was within the sizes still
-- is, and the record has as many bytes as before, but for the words of the state that an older edition hasn't. Assumes nothing.
use mathlib.Core.Bool.{Bool, ◌&&◌, cond, false, true}
use mathlib.Core.List.{List, ◌++◌}
use mathlib.Core.Path.{◌∙◌, ◌≡◌, ap, refl}
use Prim.Native.Nat.{◌<◌, ◌≤◌, ℕ}
use native.Mathlib.Omega.{arith}
use borrow.Author.Tests.{le-leb, lt-leb}
use lib.Dec.{leb}
use lib.ListN.{drop, length, length-replicate}
use Rattle.line.specs.Sizes.{fits, world_fits}
use Rattle.run_lines.proofs.Loop.{Sizes}
use Rattle.laws_run.proofs.Keeps.{run_keeps, still_fits}
use Rattle.state_words.specs.Words.{state_size}
use Rattle.record_layout.specs.Order.{edition, most_bytes, record_size}
use Rattle.record_read.specs.Format.{Held, layout, layout_for, record_of}
use Rattle.record_read.specs.Read.{read_of, trailer_word}
use Rattle.record_read.specs.Read.Read.{Kept}
use Rattle.laws_record.proofs.Newest.{newest_size}
use Rattle.laws_record.proofs.Verdict.{whence}
use Rattle.laws_record.proofs.Whence.{both}
use Rattle.record_write.specs.Written.{can_write, size_for, write_of, wrote}
use Rattle.record_run.specs.After.{after, ran_from, said_of, shelved, shelved_as}
use Rattle.record_replay.specs.Shelf.{on_read, shelf_within}
use Rattle.record_print.specs.Print.{blank, print_of, room, text_of}
use Rattle.line.specs.World.{under}
use Rattle.rules.specs.declared.Rules.{Rules}

module _ (rules : Rules) where
  -- ---- what is within the sizes is still so after the run
  pub after_layout : (h : Held) → layout_for (after rules h) ≡ layout_for h
  after_layout h =
      ap (λ (z : Sizes). layout state_size z.gx (length h.fixed.contours) z.tx (length h.fixed.controls) (length h.sheet))
      (run_keeps (under rules h.fixed) h.sheet (length h.sheet) 0 h.world).lengths

  pub after_fits : (h : Held) → world_fits (after rules h).fixed (after rules h).sheet (after rules h).world ≡ world_fits h.fixed h.sheet h.world
  unfolding fits
  after_fits h = still_fits (under rules h.fixed) h.sheet h.world (ran_from rules h).world (run_keeps (under rules h.fixed) h.sheet (length h.sheet) 0 h.world)

  neither : (a c : Bool) → a && false && c ≡ false
  neither true c = refl
  neither false c = refl

  blank_long : length blank ≡ room
  unfolding blank
  blank_long = length-replicate {A = ℕ} room 0

  after_size : (h : Held) → size_for (after rules h) ≡ size_for h
  after_size h = ap record_size (after_layout h)

  -- what a replay says and leaves, by whether its record can be written
  by_test : (most : ℕ) (bytes out : List ℕ) (h : Held) → read_of bytes ≡ Kept h → {t : Bool} → can_write most (after rules h) (length out) ≡ t
      → shelf_within rules most bytes out ≡ shelved_as (layout_for h) (ran_from rules h) (cond t (wrote (size_for (after rules h)) (record_of (after rules h) ++ drop (size_for (after rules h)) out)) (wrote 0 out))
  unfolding shelf_within on_read write_of
  by_test most bytes out h e c =
      ap (on_read rules most out) e
      ∙ ap (λ (t : Bool). shelved_as (layout_for h) (ran_from rules h) (cond t (wrote (size_for (after rules h)) (record_of (after rules h) ++ drop (size_for (after rules h)) out)) (wrote 0 out))) c

  module _ (most : ℕ) (bytes out : List ℕ) (h : Held) (e : read_of bytes ≡ Kept h) where
    -- a record that is read is written whole after its replay, where its newest edition has no more bytes than it may, and room
    pub shelved_whole : size_for h ≤ most → size_for h ≤ length out
        → shelf_within rules most bytes out ≡ shelved (said_of (layout_for h) (ran_from rules h) (size_for h)) (record_of (after rules h) ++ drop (size_for h) out)
    unfolding can_write
    shelved_whole short room =
        let size = after_size h in
        let can : can_write most (after rules h) (length out) ≡ true =
        both (both (after_fits h ∙ (whence bytes h e).fit) (le-leb (size_for (after rules h)) most (omega (arith, size, short)))) (le-leb (size_for (after rules h)) (length out) (omega (arith, size, room))) in
        by_test most bytes out h e can
        ∙ ap (λ (n : ℕ). shelved_as (layout_for h) (ran_from rules h) (wrote n (record_of (after rules h) ++ drop n out))) size

    -- and nothing is, where it has more: the answer is the same
    pub shelved_none : most < size_for h → shelf_within rules most bytes out ≡ shelved (said_of (layout_for h) (ran_from rules h) 0) out
    unfolding can_write
    shelved_none long =
        let no : leb (size_for (after rules h)) most ≡ false = lt-leb (size_for (after rules h)) most (omega (arith, after_size h, long)) in
        by_test most bytes out h e
        (ap (λ (t : Bool). world_fits (after rules h).fixed (after rules h).sheet (after rules h).world && t && leb (size_for (after rules h)) (length out)) no
        ∙ neither (world_fits (after rules h).fixed (after rules h).sheet (after rules h).world) (leb (size_for (after rules h)) (length out)))

  -- a record of the newest edition has as many bytes after its replay, so that there is one to write
  pub newest_short : (bytes : List ℕ) (h : Held) → read_of bytes ≡ Kept h → trailer_word bytes 5 ≡ edition → size_for h ≤ most_bytes
  newest_short bytes h e newest = omega (arith, newest_size bytes h e newest, (whence bytes h e).short)

  -- points are printed of every record that is read, whatever its edition: the room for it is enough
  pub printed_whole : (bytes : List ℕ) (h : Held) → read_of bytes ≡ Kept h
      → print_of rules bytes ≡ text_of (shelved (said_of (layout_for h) (ran_from rules h) (size_for h)) (record_of (after rules h) ++ drop (size_for h) blank))
  unfolding print_of
  printed_whole bytes h e =
      let w = whence bytes h e in
      let short : size_for h ≤ room = omega (arith, w.size, w.some, w.short) in
      ap text_of (shelved_whole room bytes blank h e short (omega (arith, short, blank_long)))
