-- A run among no more words than the longest line has: none of its lines is too long, so that it stops by itself at the first that isn't whole. Assumes
-- nothing.
use Rattle.std.specs.Prelude.{Err}
use mathlib.Core.Bool.{Bool, cond, false, true}
use mathlib.Core.List.{List}
use mathlib.Core.Path.{◌∙◌, ◌≡◌, ap, refl, subst, sym}
use Prim.Native.Nat.{ℕ, suc, zero, ◌+◌, ◌-◌, ◌^◌, ◌<◌, ◌≤◌}
use native.Mathlib.Nat.{add-zero}
use native.Mathlib.Omega.{arith}
use lib.Dec.{ltb}
use lib.IntN.{pos, ℤ}
use lib.ListN.{drop, get_or, length, length-drop}
use lib.Seq.{get_or-drop}
use Rattle.answer.specs.declared.Refusal.TheVariants.{Line}
use Rattle.int.specs.Word.{index_of}
use Rattle.line.specs.World.{Fixed, World}
use Rattle.opcodes.proofs.Lines.{no_count as decode-no-count, no_opcode as decode-no-opcode, not_known as decode-not-known, too_long as decode-too-long}
use Rattle.opcodes.specs.Decode.{decode_of}
use Rattle.opcodes.specs.Table.{need_of, unknown}
use Rattle.feed_look.proofs.Looks.{Tests, all, no_count, no_opcode, no_word, not_all, not_known, tests, too_long}
use Rattle.feed_look.proofs.Looks.Tests.{Beyond, Empty, Full, Longer, Short, Single, Strange}
use Rattle.feed_look.specs.Look.{long_by, most_line, most_operands}
use Rattle.feed_look.specs.Steps.{whole_at, whole_by}
use Rattle.feed_look.specs.declared.Seen.TheVariants.{Bad}
use Rattle.feed_look.specs.declared.Seen.TheVariants.{Long as LongLine}
use Rattle.run_lines.proofs.Loop.{at_end}
use Rattle.run_lines.specs.Onward.{Ran, ends, on_call, replay_of}
use Rattle.run_lines.specs.declared.Answer.TheVariants.{Finished}
use Rattle.run_lines.specs.declared.Answer.TheVariants.{Refused as RefusedRun}
use Rattle.run_step.proofs.Steps.{not_read}
use Rattle.run_step.specs.Step.{Went}
use Rattle.feed.proofs.Lines.{Goes, finished_rests, one_line, rests, run_line, unread_rests}

none_long : (count : ℕ) → whole_by (long_by count) ≡ 0
unfolding long_by whole_by
none_long count = by (ltb count (2 ^ 31))
  where
    by : (t : Bool) → whole_by (cond t LongLine Bad) ≡ 0
    by true = refl
    by false = refl

module _ (f : Fixed) (sheet : List ℤ) (origin before n at : ℕ) (w : World) (h : at ≤ length sheet) where
  abbrev words : List ℤ
  words = drop at sheet

  abbrev op : ℕ
  op = index_of (get_or words 0 (pos 0))

  abbrev count : ℕ
  count = index_of (get_or words 1 (pos 0))

  op_at : op ≡ index_of (get_or sheet at (pos 0))
  op_at = ap index_of (get_or-drop at sheet 0 (pos 0) ∙ ap (λ (i : ℕ). get_or sheet i (pos 0)) (add-zero at))

  count_at : count ≡ index_of (get_or sheet (at + 1) (pos 0))
  count_at = ap index_of (get_or-drop at sheet 1 (pos 0))

  -- no word is left
  pub all_run : (b : ℕ) → length words < 1 → Goes f sheet origin before n at w (replay_of f sheet b n at w)
  unfolding whole_by
  all_run b g =
      subst (Goes f sheet origin before n at w) (at_end f sheet b n at w (omega (arith, g, length-drop at sheet)))
      (rests f sheet origin before n at w Finished h (ap whole_by (no_word (length words) op count g)) finished_rests)

  module _ (b : ℕ) (few : length words ≤ most_line) where
    -- a line that can't be read, and that isn't whole
    unread : 1 ≤ length words → whole_at sheet at ≡ 0 → decode_of sheet w.state.loop_counter at ≡ Err Line → Goes f sheet origin before n at w (replay_of f sheet (suc b) n at w)
    unfolding on_call
    unread g z e =
        let is : replay_of f sheet (suc b) n at w ≡ ends (RefusedRun Line) n at w =
        run_line f sheet b n at w (omega (arith, g, length-drop at sheet))
        ∙ ap (λ (x : Went). on_call (replay_of f sheet b (suc n)) n x.place x.world x.call) (sym (not_read f sheet at w refl e)) in
        subst (Goes f sheet origin before n at w) (sym is) (rests f sheet origin before n at w (RefusedRun Line) h z (unread_rests Line))

    here : 1 ≤ length words → at < length sheet
    here g = omega (arith, g, length-drop at sheet)

    pub by_tests : Tests (length words) op count
        → ((k : ℕ) (v : World) → 0 < k → at + k ≤ length sheet → Goes f sheet origin before (suc n) (at + k) v (replay_of f sheet b (suc n) (at + k) v))
        → Goes f sheet origin before n at w (replay_of f sheet (suc b) n at w)
    unfolding whole_by
    by_tests (Empty g) ih = all_run (suc b) g
    by_tests (Beyond g a) ih =
        unread g (ap whole_by (no_opcode (length words) op count g a)) (decode-no-opcode sheet w.state.loop_counter at op (here g) op_at a)
    by_tests (Strange g a u) ih =
        unread g (ap whole_by (not_known (length words) op count g a u)) (decode-not-known sheet w.state.loop_counter at op (here g) op_at a u)
    by_tests (Single g a u c) ih =
        unread g (ap whole_by (no_count (length words) op count g a u c))
        (decode-no-count sheet w.state.loop_counter at op (here g) op_at a u (omega (arith, c, h, length-drop at sheet)))
    by_tests (Longer a u c d) ih =
        let g : 1 ≤ length words = omega (arith, c) in
        unread g (ap whole_by (too_long (length words) op count g a u c d) ∙ none_long count)
        (decode-too-long sheet w.state.loop_counter at op (here g) op_at a u count (omega (arith, c, length-drop at sheet)) count_at (omega (arith, d, few, length-drop at sheet)))
    by_tests (Short a u c d e) ih =
        let g : 1 ≤ length words = omega (arith, c) in
        unread g (ap whole_by (not_all (length words) op count g a u c d e))
        (decode-too-long sheet w.state.loop_counter at op (here g) op_at a u count (omega (arith, c, length-drop at sheet)) count_at (omega (arith, e, length-drop at sheet)))
    by_tests (Full a u c d e) ih =
        one_line f sheet origin before b n at (count + 2) w (all (length words) op count (omega (arith, c)) a u c d e)
        (λ v. ih (count + 2) v (omega arith) (omega (arith, e, h, length-drop at sheet)))

pub few_run : (f : Fixed) (sheet : List ℤ) (origin before b n at : ℕ) (w : World) → at ≤ length sheet → length (drop at sheet) ≤ b → length (drop at sheet) ≤ most_line
    → Goes f sheet origin before n at w (replay_of f sheet b n at w)
few_run f sheet origin before zero n at w h g s = all_run f sheet origin before n at w h 0 (omega (arith, g))
few_run f sheet origin before (suc b) n at w h g s =
    by_tests f sheet origin before n at w h b s (tests (length (drop at sheet)) (index_of (get_or (drop at sheet) 0 (pos 0))) (index_of (get_or (drop at sheet) 1 (pos 0))))
    (λ k v some inside.
    let d = length-drop at sheet in
    let e = length-drop (at + k) sheet in
    few_run f sheet origin before b (suc n) (at + k) v inside (omega (arith, g, some, d, e)) (omega (arith, s, d, e)))
