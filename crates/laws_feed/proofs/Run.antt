-- The feed of a sheet's words, ended, is the run of its lines with enough budget: by induction on the budget, a line at a time. Assumes nothing.
use Rattle.std.specs.Prelude.{⊤, Result, Ok, Err}
use Rattle.answer.specs.declared.Refusal.{Refusal}
use mathlib.Core.Bool.{Bool, cond, false, not, true, true≢false}
use mathlib.Core.List.{List, []}
use mathlib.Core.Path.{◌∙◌, ◌≡◌, ap, refl, sym}
use Prim.Native.Nat.{ℕ, suc, zero, ◌+◌, ◌-◌, ◌^◌, ◌<◌, ◌≤◌}
use native.Mathlib.Nat.{add-zero}
use native.Mathlib.Omega.{arith}
use borrow.Author.Tests.{le-leb, lt-ltb, ltb-false, ne_eqb}
use lib.Dec.{eqb, ltb}
use lib.IntN.{pos, ℤ}
use lib.ListN.{drop, drop_of_length-le, get_or, length, length-drop, take}
use lib.Seq.{get_or-drop}
use Rattle.answer.specs.declared.Refusal.TheVariants.{Line}
use Rattle.feed.proofs.Lines.{line_fed, line_long, line_there, run_line, step_local}
use Rattle.feed.proofs.Words.{all_wait, are_bad, stays}
use Rattle.feed.specs.Feed.{Feeding, after_call, fed_all, going}
use Rattle.feed_carry.specs.Carry.{said_is_open, waits}
use Rattle.feed_carry.specs.declared.Said.{Said}
use Rattle.feed_carry.specs.declared.Said.TheVariants.{Ended, Long, Open, Refused}
use Rattle.feed_look.proofs.Looks.{Tests, all, no_count, no_opcode, not_all, not_known, tests, too_long}
use Rattle.feed_look.proofs.Looks.Tests.{Beyond, Empty, Full, Longer, Short, Single, Strange}
use Rattle.feed_look.specs.Look.{long_by, look_of, most_operands}
use Rattle.feed_look.specs.declared.Seen.TheVariants.{Bad, Waits, Whole}
use Rattle.feed_look.specs.declared.Seen.TheVariants.{Long as LongLine}
use Rattle.int.specs.Word.{index_of}
use Rattle.limits.specs.Limits.{most_words}
use Rattle.line.specs.World.{Fixed, World}
use Rattle.opcodes.proofs.Lines.{no_count as decode-no-count, no_opcode as decode-no-opcode, not_known as decode-not-known, too_long as decode-too-long}
use Rattle.opcodes.specs.Decode.{decode_of}
use Rattle.opcodes.specs.Table.{need_of, unknown}
use Rattle.run_lines.proofs.Loop.{at_end}
use Rattle.run_lines.specs.Onward.{on_call, replay_of}
use Rattle.run_step.proofs.Steps.{not_read}
use Rattle.run_step.specs.Step.{Went, place_after, step_of}
use Rattle.laws_feed.specs.Cutting.{Ending, counts_short, ending, ending_of_run, long_count, on_done}
use Rattle.laws_feed.proofs.Calls.{both}
use Rattle.laws_feed.proofs.Kept.{nothing_waits}

-- how a feed ends that is entered: an unfinished line is refused
unfoldable pub close_by : Feeding → Said → Ending
close_by g Open = ending (cond (eqb (length g.pending) 0) Ended (Refused Line)) g.base g.world
close_by g Ended = ending Ended g.base g.world
close_by g Long = ending Long g.base g.world
close_by g (Refused why) = ending (Refused why) g.base g.world

abbrev pub closes : Feeding → Ending
closes g = close_by g g.said

none_left : (at n : ℕ) (w : World) → closes (going at n [] w) ≡ ending Ended at w
unfolding close_by
none_left at n w = refl

some_left : (at n : ℕ) (w : World) (p : List ℤ) → 0 < length p → closes (going at n p w) ≡ ending (Refused Line) at w
unfolding close_by
some_left at n w p h = rw (ne_eqb (length p) 0 (λ e. omega (arith, h, e)))

closed_bad : (f : Fixed) (at n : ℕ) (w : World) (l : List ℤ) → look_of l ≡ Bad → closes (fed_all f (going at n [] w) l) ≡ ending (Refused Line) at w
unfolding close_by
closed_bad f at n w l e = ap closes (are_bad f at n [] w l nothing_waits e)

closed_waits : (f : Fixed) (at n : ℕ) (w : World) (l : List ℤ) → 0 < length l → look_of l ≡ Waits → closes (fed_all f (going at n [] w) l) ≡ ending (Refused Line) at w
unfolding waits
closed_waits f at n w l h e = ap closes (all_wait f at n [] w l nothing_waits (ap waits e)) ∙ some_left at n w l h

-- a count that is too long
is_bad : (count : ℕ) → ltb count (2 ^ 31) ≡ false → long_by count ≡ Bad
unfolding long_by
is_bad count e = ap (λ (t : Bool). cond t LongLine Bad) e

module _ (f : Fixed) (sheet : List ℤ) (small : length sheet ≤ most_words) (b n m at : ℕ) (w : World) where
  abbrev words : List ℤ
  words = drop at sheet

  abbrev op : ℕ
  op = index_of (get_or words 0 (pos 0))

  abbrev count : ℕ
  count = index_of (get_or words 1 (pos 0))

  abbrev fed_here : Ending
  fed_here = closes (fed_all f (going at n [] w) words)

  abbrev run_here : Ending
  run_here = ending_of_run (replay_of f sheet (suc b) m at w)

  op_at : op ≡ index_of (get_or sheet at (pos 0))
  op_at = ap index_of (get_or-drop at sheet 0 (pos 0) ∙ ap (λ (i : ℕ). get_or sheet i (pos 0)) (add-zero at))

  count_at : count ≡ index_of (get_or sheet (at + 1) (pos 0))
  count_at = ap index_of (get_or-drop at sheet 1 (pos 0))

  here : 1 ≤ length words → at < length sheet
  here h = omega (arith, h, length-drop at sheet)

  there : 2 ≤ length words → at + 2 ≤ length sheet
  there h = omega (arith, h, length-drop at sheet)

  -- the run can't read the line
  run_refused : at < length sheet → decode_of sheet w.state.loop_counter at ≡ Err Line → run_here ≡ ending (Refused Line) at w
  unfolding on_call
  run_refused h e =
      ap ending_of_run
      (run_line f sheet b m at w h
      ∙ ap (λ (g : Went). on_call (replay_of f sheet b (suc m)) m g.place g.world g.call) (sym (not_read f sheet at w refl e)))

  by_empty : length words < 1 → fed_here ≡ run_here
  by_empty h =
      let over : length sheet ≤ at = omega (arith, h, length-drop at sheet) in
      ap (λ (l : List ℤ). closes (fed_all f (going at n [] w) l)) (drop_of_length-le sheet over) ∙ none_left at n w
      ∙ ap ending_of_run (at_end f sheet (suc b) m at w over)

  by_beyond : 1 ≤ length words → 255 < op → fed_here ≡ run_here
  by_beyond h a =
      closed_bad f at n w words (no_opcode (length words) op count h a)
      ∙ sym (run_refused (here h) (decode-no-opcode sheet w.state.loop_counter at op (here h) op_at a))

  by_strange : 1 ≤ length words → op ≤ 255 → need_of op ≡ unknown → fed_here ≡ run_here
  by_strange h a u =
      closed_bad f at n w words (not_known (length words) op count h a u)
      ∙ sym (run_refused (here h) (decode-not-known sheet w.state.loop_counter at op (here h) op_at a u))

  by_single : 1 ≤ length words → op ≤ 255 → (need_of op ≡ unknown → ⊥) → length words < 2 → fed_here ≡ run_here
  by_single h a u c =
      closed_waits f at n w words h (no_count (length words) op count h a u c)
      ∙ sym (run_refused (here h) (decode-no-count sheet w.state.loop_counter at op (here h) op_at a u (omega (arith, c, length-drop at sheet, here h))))

  module _ (a : op ≤ 255) (u : need_of op ≡ unknown → ⊥) (c : 2 ≤ length words) where
    one : 1 ≤ length words
    one = omega (arith, c)

    past_end : length words < count + 2 → run_here ≡ ending (Refused Line) at w
    past_end d =
        run_refused (here one)
        (decode-too-long sheet w.state.loop_counter at op (here one) op_at a u count (there c) count_at (omega (arith, d, length-drop at sheet, there c)))

    by_short : count ≤ most_operands → length words < count + 2 → fed_here ≡ run_here
    by_short d e = closed_waits f at n w words one (not_all (length words) op count one a u c d e) ∙ sym (past_end e)

    is_long : most_operands < count → ltb count (2 ^ 31) ≡ true → long_count words ≡ true
    is_long d t = rw (le-leb 2 (length words) c, le-leb op 255 a, ne_eqb (need_of op) unknown u, lt-ltb most_operands count d, t)

    by_negative : most_operands < count → ltb count (2 ^ 31) ≡ false → fed_here ≡ run_here
    by_negative d t =
        closed_bad f at n w words (too_long (length words) op count one a u c d ∙ is_bad count t)
        ∙ sym (past_end (omega (arith, ltb-false count (2 ^ 31) t, small, length-drop at sheet)))

    by_long : most_operands < count → long_count words ≡ false → (t : Bool) → ltb count (2 ^ 31) ≡ t → fed_here ≡ run_here
    by_long d k true t = absurd (true≢false (sym (is_long d t) ∙ k))
    by_long d k false t = by_negative d t

  -- a whole line: what follows it is by induction
  module _ (ih : (at' n' m' : ℕ) (v : World) → length (drop at' sheet) ≤ b → counts_short f sheet b at' v ≡ true
      → closes (fed_all f (going at' n' [] v) (drop at' sheet)) ≡ ending_of_run (replay_of f sheet b m' at' v)) (enough : length words ≤ suc b) where
    by_call : (k : ℕ) (line : List ℤ) (v : World) (call : Result ⊤ Refusal) → length line ≡ k → 0 < k
        → fed_all f (going at n [] w) words ≡ fed_all f (after_call (going at n line w) v call) (drop (at + k) sheet)
        → on_done (counts_short f sheet b) (record { call = call; place = place_after at (at + k) call; world = v }) call ≡ true
        → fed_here ≡ ending_of_run (on_call (replay_of f sheet b (suc m)) m (place_after at (at + k) call) v call)
    unfolding after_call on_call on_done close_by said_is_open
    by_call k line v (Ok tt) long some e s =
        ap closes e
        ∙ ap (λ (i : ℕ). closes (fed_all f (going (at + i) (suc n) [] v) (drop (at + k) sheet))) long
        ∙ ih (at + k) (suc n) (suc m) v (omega (arith, enough, some, length-drop at sheet, length-drop (at + k) sheet)) s
    by_call k line v (Err why) long some e s =
        ap closes (e ∙ stays f (record { said = Refused why; base = at; lines = n; pending = []; world = v }) (drop (at + k) sheet) refl)

    by_whole : (k : ℕ) → 0 < k → look_of words ≡ Whole k → on_done (counts_short f sheet b) (step_of f sheet at w) (step_of f sheet at w).call ≡ true → fed_here ≡ run_here
    by_whole k some e s =
        let r = step_of f (take k words) 0 w in
        let l = step_local f sheet at w k e in
        by_call k (take k words) r.world r.call (line_long f sheet at w k e) some (line_fed f sheet at w k e at n)
        (sym (ap (λ (g : Went). on_done (counts_short f sheet b) g g.call) l) ∙ s)
        ∙ sym (ap ending_of_run (run_line f sheet b m at w (line_there f sheet at w k e)
        ∙ ap (λ (g : Went). on_call (replay_of f sheet b (suc m)) m g.place g.world g.call) l))

    by_tests : Tests (length words) op count → long_count words ≡ false → on_done (counts_short f sheet b) (step_of f sheet at w) (step_of f sheet at w).call ≡ true → fed_here ≡ run_here
    by_tests (Empty h) k s = by_empty h
    by_tests (Beyond h a) k s = by_beyond h a
    by_tests (Strange h a u) k s = by_strange h a u
    by_tests (Single h a u c) k s = by_single h a u c
    by_tests (Longer a u c d) k s = by_long a u c d k (ltb count (2 ^ 31)) refl
    by_tests (Short a u c d e) k s = by_short a u c d e
    by_tests (Full a u c d e) k s = by_whole (count + 2) (omega arith) (all (length words) op count (omega (arith, c)) a u c d e) s

not_is : (t : Bool) → not t ≡ true → t ≡ false
not_is true e = absurd (true≢false (sym e))
not_is false e = refl

pub from : (f : Fixed) (sheet : List ℤ) → length sheet ≤ most_words → (b n m at : ℕ) (w : World) → length (drop at sheet) ≤ b → counts_short f sheet b at w ≡ true
    → closes (fed_all f (going at n [] w) (drop at sheet)) ≡ ending_of_run (replay_of f sheet b m at w)
unfolding counts_short
from f sheet small zero n m at w h s =
    let over : length sheet ≤ at = omega (arith, h, length-drop at sheet) in
    ap (λ (l : List ℤ). closes (fed_all f (going at n [] w) l)) (drop_of_length-le sheet over) ∙ none_left at n w
    ∙ ap ending_of_run (at_end f sheet 0 m at w over)
from f sheet small (suc b) n m at w h s =
    let k = both (not (long_count (drop at sheet))) _ s in
    let words = drop at sheet in
    by_tests f sheet small b n m at w (λ at' n' m' v h' s'. from f sheet small b n' m' at' v h' s') h
    (tests (length words) (index_of (get_or words 0 (pos 0))) (index_of (get_or words 1 (pos 0)))) (not_is (long_count words) k.0) k.1
