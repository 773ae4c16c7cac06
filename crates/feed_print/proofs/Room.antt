-- The text of a feed has room, as a replay's has. Assumes nothing.
use Rattle.std.specs.Prelude.{Result, Ok, Err}
use Rattle.record_read.specs.declared.Damage.{Damage}
use mathlib.Core.Bool.{Bool, cond, false, true, ◌&&◌}
use mathlib.Core.List.{List, ◌++◌}
use mathlib.Core.Path.{◌∙◌, ◌≡◌, ap, refl, subst, sym}
use Prim.Native.Nat.{◌≤◌, ℕ}
use native.Mathlib.Omega.{arith}
use lib.Dec.{ltb}
use lib.ListN.{drop, length}
use Rattle.record_layout.specs.declared.Layout.{Layout}
use Rattle.record_read.proofs.Whole.{layout_kept}
use Rattle.record_read.specs.Read.{held_in, open_of, read_as}
use Rattle.record_run.specs.After.{Shelved, shelved}
use Rattle.record_run.specs.declared.Replayed.{Replayed}
use Rattle.rules.specs.declared.Rules.{Rules}
use Rattle.record_replay.proofs.Cases.{within}
use Rattle.record_replay.specs.Shelf.{refused_as}
use Rattle.line.specs.World.{Fixed, under}
use Rattle.feed_carry.specs.Carry.{said_is_open}
use Rattle.feed.specs.Feed.{end_of}
use Rattle.record_print.specs.Print.{Front, answer_line, blank, glyph_lines, room, text_of}
use Rattle.record_print.specs.Steps.{Put}
use Rattle.record_print.proofs.Room.{text_put, text_room}
use Rattle.feed_arriving.specs.Arriving.{Arrived, arrive_all, at_first, end_arrived, ended_as, fed_shelf, given}
use Rattle.feed_record.specs.Fed.{FedRecord, bare_for, fed_on_read, fed_record, no_words}
use Rattle.feed_print.specs.Print.{FedPrint, fed_print}

-- no more points than the layout has
end_points : (rules : Rules) (most : ℕ) (l : Layout) (g : Fixed) (out : List ℕ) (a : Arrived) → l.points ≤ 872 → (end_arrived rules most l g out a).said.layout.points ≤ 872
unfolding end_arrived
end_points rules most l g out a h = by_test (said_is_open a.left.said && ltb 0 (length a.begun))
  where
    by_test : (b : Bool)
        → (cond b (shelved (refused_as 16) out) (ended_as l g most a.lines (end_of (under rules g) (given a.left) a.left.carry a.left.world) out)).said.layout.points ≤ 872
    by_test true = omega arith
    by_test false = h

-- than a record has
fed_points : (rules : Rules) (most : ℕ) (bytes : List ℕ) (blocks : List (List ℕ)) (out : List ℕ) → (fed_record rules most bytes blocks out).said.layout.points ≤ 872
unfolding fed_record fed_on_read fed_shelf
fed_points rules most bytes blocks out = by_verdict (open_of bytes) refl
  where
    by_verdict : (o : Result Layout Damage) → open_of bytes ≡ o → (fed_on_read rules most blocks out (read_as bytes o)).said.layout.points ≤ 872
    by_verdict (Ok l) e =
        let h = held_in bytes l in
        let f = under rules h.fixed in
        let few : (bare_for h).points ≤ 872 = subst (λ (n : ℕ). n ≤ 872) (sym (ap (λ (m : Layout). m.points) (layout_kept bytes l))) (within bytes l e).0 in
        end_points rules most (bare_for h) h.fixed out (arrive_all f (at_first f no_words h) blocks) few
    by_verdict (Err why) e = omega arith

module _ {rules : Rules} {bytes : List ℕ} {r : Replayed} {out : List ℕ} (v : FedRecord rules room bytes blank (shelved r out)) where
  pub points_few : r.layout.points ≤ 872
  points_few = subst (λ (s : Shelved). s.said.layout.points ≤ 872) (sym v.is) (fed_points rules room bytes v.blocks blank)

  pub printed : {n m : ℕ} {l₀ l₁ l₂ : List ℕ} → Put (answer_line r) 0 n l₀ l₁ → Put (glyph_lines out r.layout) n m l₁ l₂ → length (answer_line r) ≤ 74 → length l₀ ≡ text_room
      → Front m l₂ × FedPrint rules bytes l₀ m l₂
  unfolding fed_print text_of
  printed p q a t =
      let x = text_put r out (fed_print rules bytes v.blocks) (ap text_of v.is) points_few p q a t in
      (x.1.0, record { blocks = v.blocks; size_is = x.0; text_is = x.1.1 })
