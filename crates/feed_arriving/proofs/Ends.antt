-- The end of a feed: a word that is begun, or the record that is written. Assumes nothing.
use mathlib.Core.Bool.{Bool, cond, false, true, ◌&&◌}
use mathlib.Core.List.{List, []}
use mathlib.Core.Path.{◌∙◌, ◌≡◌, ap, sym}
use Prim.Native.Nat.{ℕ}
use lib.Dec.{ltb}
use lib.IntN.{ℤ}
use lib.ListN.{length}
use Rattle.rules.specs.declared.Rules.{Rules}
use Rattle.line.specs.World.{Fixed, under, world}
use Rattle.feed_carry.specs.Carry.{said_is_open}
use Rattle.feed_carry.specs.declared.Fed.{Fed}
use Rattle.feed.specs.Feed.{Left, end_of, left}
use Rattle.record_layout.specs.declared.Layout.{Layout}
use Rattle.record_read.specs.Format.{held}
use Rattle.record_write.specs.Written.{Wrote, write_of, wrote}
use Rattle.record_run.specs.After.{Shelved, shelved}
use Rattle.record_run.specs.declared.Replayed.{Replayed}
use Rattle.record_replay.specs.Shelf.{refused_as}
use Rattle.feed_arriving.specs.Arriving.{Arrived, end_arrived, ended_as, fed_said, given}
use Rattle.feed_arriving.specs.Steps.{arrived_by, said_by}

-- what the end left is what is written and said
pub ended_written : (most : ℕ) (l : Layout) (lines : ℕ) (g : Fixed) (out : List ℕ) (e : Fed) (carry gx gy : List ℤ) (gflags : List ℕ) (tox toy tx ty : List ℤ) (tflags : List ℕ)
    {x : Left} {size : ℕ} {out' : List ℕ} {r : Replayed}
    → left e carry gx gy gflags tox toy tx ty tflags ≡ x
    → wrote size out' ≡ write_of most (held g [] (world e.state gx gy gflags tox toy tx ty tflags)) out
    → r ≡ said_by l lines e size
    → shelved r out' ≡ ended_as l g most lines x out
ended_written most l lines g out e carry gx gy gflags tox toy tx ty tflags {x} {size} {out'} p q t =
    let z = left e carry gx gy gflags tox toy tx ty tflags in
    ap (λ (r : Replayed). shelved r out') t
    ∙ ap (λ (w : Wrote). shelved (fed_said l lines z w.size) w.bytes) q
    ∙ ap (λ (y : Left). ended_as l g most lines y out) p

-- ---- whether a word is begun
module _ (rules : Rules) (most : ℕ) (l : Layout) (g : Fixed) (out : List ℕ) (a : Arrived) where
  pub cut_short : {r : Replayed} → said_is_open a.left.said && ltb 0 (length a.begun) ≡ true → r ≡ refused_as 16 → shelved r out ≡ end_arrived rules most l g out a
  unfolding end_arrived
  cut_short {r} t e =
      ap (λ (r : Replayed). shelved r out) e
      ∙ sym (ap (λ (b : Bool). cond b (shelved (refused_as 16) out) (ended_as l g most a.lines (end_of (under rules g) (given a.left) a.left.carry a.left.world) out)) t)

  pub not_cut : {s : Shelved} → said_is_open a.left.said && ltb 0 (length a.begun) ≡ false
      → s ≡ ended_as l g most a.lines (end_of (under rules g) (given a.left) a.left.carry a.left.world) out → s ≡ end_arrived rules most l g out a
  unfolding end_arrived
  not_cut {s} t e =
      e
      ∙ sym (ap (λ (b : Bool). cond b (shelved (refused_as 16) out) (ended_as l g most a.lines (end_of (under rules g) (given a.left) a.left.carry a.left.world) out)) t)
