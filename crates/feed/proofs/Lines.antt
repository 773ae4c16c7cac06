-- Whole lines of a sheet: a run of so many of them is the feed of their words. Assumes nothing.
use Rattle.std.specs.Prelude.{⊤, Result, Ok, Err}
use mathlib.Core.Bool.{Bool, cond, false, true}
use mathlib.Core.List.{List, [], ◌++◌}
use mathlib.Core.Path.{◌∙◌, ◌≡◌, ap, refl, subst, sym}
use Prim.Native.Nat.{ℕ, suc, zero, ◌+◌, ◌-◌, ◌<◌, ◌≤◌}
use native.Mathlib.Nat.{add-zero}
use native.Mathlib.Omega.{arith}
use borrow.Author.Tests.{le-ltb, lt-ltb, ltb-false, ltb-true}
use lib.Dec.{ltb}
use lib.IntN.{pos, ℤ}
use lib.ListN.{drop, get_or, length, length-drop, take}
use lib.Seq.{drop_at, drop-drop, get_or-drop, get_or-take, length-take-le, take-add, take_all}
use Rattle.answer.specs.declared.Refusal.{Refusal}
use Rattle.int.specs.Word.{index_of}
use Rattle.line.specs.World.{Fixed, World}
use Rattle.opcodes.proofs.Lines.{too_many, whole}
use Rattle.opcodes.specs.Table.{line_of, operands_of, row_of}
use Rattle.feed_look.proofs.Counts.{is_whole}
use Rattle.feed_look.proofs.Looks.{IsWhole, no_word, whole_is}
use Rattle.feed_look.specs.Look.{look_of}
use Rattle.feed_look.specs.Steps.{Lines, whole_at, whole_by}
use Rattle.feed_look.specs.declared.Seen.TheVariants.{Whole}
use Rattle.run_lines.specs.Onward.{Ran, ends, on_call, replay_of}
use Rattle.run_lines.specs.declared.Answer.{Answer}
use Rattle.run_lines.specs.declared.Answer.TheVariants.{Finished, OutOfBudget}
use Rattle.run_lines.specs.declared.Answer.TheVariants.{Refused as RefusedRun}
use Rattle.run_step.specs.Step.{Went, landed_in, on_decoded, place_after, step_of}
use Rattle.feed.specs.Feed.{Feeding, after_call, after_line, fed_all, going}
use Rattle.feed.specs.Steps.{refusal_by}
use Rattle.feed_carry.specs.Carry.{said_is_open, waits}
use Rattle.feed_carry.specs.declared.Said.TheVariants.{Refused}
use Rattle.feed.proofs.Words.{are_line, stays}

-- ---- a whole line does what its words alone do
-- where it stands in a sheet, by what it comes to: its place is kept, or the place behind its words
abbrev pub placed : ℕ → ℕ → Went → Went
placed at end r = record { call = r.call; place = place_after at end r.call; world = r.world }

module _ (f : Fixed) (sheet : List ℤ) (at : ℕ) (w : World) (k : ℕ) (e : look_of (drop at sheet) ≡ Whole k) where
  abbrev words : List ℤ
  words = drop at sheet

  abbrev line : List ℤ
  line = take k words

  abbrev op : ℕ
  op = index_of (get_or words 0 (pos 0))

  abbrev count : ℕ
  count = index_of (get_or words 1 (pos 0))

  abbrev counter : ℕ
  counter = w.state.loop_counter

  facts : IsWhole (length words) op count k
  facts = whole_is (length words) op count e

  here : at < length sheet
  here = omega (arith, facts.is, facts.there, length-drop at sheet)

  room : count ≤ length sheet - (at + 2)
  room = omega (arith, facts.is, facts.there, length-drop at sheet)

  reaches : at + 2 ≤ length sheet
  reaches = omega (arith, facts.is, facts.there, length-drop at sheet)

  op_at : op ≡ index_of (get_or sheet at (pos 0))
  op_at = ap index_of (get_or-drop at sheet 0 (pos 0) ∙ ap (λ (i : ℕ). get_or sheet i (pos 0)) (add-zero at))

  count_at : count ≡ index_of (get_or sheet (at + 1) (pos 0))
  count_at = ap index_of (get_or-drop at sheet 1 (pos 0))

  long : length line ≡ k
  long = length-take-le k words facts.there

  op_in : op ≡ index_of (get_or line 0 (pos 0))
  op_in = ap index_of (sym (get_or-take k words 0 (pos 0) (omega (arith, facts.is))))

  count_in : count ≡ index_of (get_or line 1 (pos 0))
  count_in = ap index_of (sym (get_or-take k words 1 (pos 0) (omega (arith, facts.is))))

  in_line : 0 < length line
  in_line = omega (arith, long, facts.is)

  line_reaches : 2 ≤ length line
  line_reaches = omega (arith, long, facts.is)

  line_room : count ≤ length line - 2
  line_room = omega (arith, long, facts.is)

  -- the operands are the same words
  abbrev operands : List ℤ
  operands = take count (drop 2 words)

  in_sheet : take (at + 2 + count - (at + 2)) (drop (at + 2) sheet) ≡ operands
  in_sheet =
      let n : at + 2 + count - (at + 2) ≡ count = omega arith in
      ap (λ (i : ℕ). take i (drop (at + 2) sheet)) n ∙ ap (take count) (sym (drop-drop 2 at sheet))

  in_words : take (2 + count - 2) (drop 2 line) ≡ operands
  in_words =
      let n : 2 + count - 2 ≡ count = omega arith in
      let m : k ≡ 2 + count = omega (arith, facts.is) in
      let two : length (take 2 words) ≡ 2 = length-take-le 2 words (omega (arith, facts.is, facts.there)) in
      let split : line ≡ take 2 words ++ operands = ap (λ (i : ℕ). take i words) m ∙ take-add 2 count words in
      let all : length operands ≡ count = length-take-le count (drop 2 words) (omega (arith, facts.is, facts.there, length-drop 2 words)) in
      ap (λ (i : ℕ). take i (drop 2 line)) n ∙ ap (λ (l : List ℤ). take count (drop 2 l)) split
      ∙ ap (take count) (drop_at (take 2 words) operands 2 two) ∙ take_all count operands (omega (arith, all))

  behind : at + 2 + count ≡ at + k
  behind = omega (arith, facts.is)

  local_whole : count ≤ operands_of (row_of op).takes counter → step_of f sheet at w ≡ placed at (at + k) (step_of f line 0 w)
  unfolding step_of on_decoded
  local_whole g =
      ap (on_decoded f sheet at w) (whole sheet counter at op here op_at facts.opcode facts.known count reaches count_at room g)
      ∙ ap (λ (l : List ℤ). landed_in at (at + 2 + count) (line_of f op l w)) in_sheet
      ∙ ap (λ (i : ℕ). landed_in at i (line_of f op operands w)) behind
      ∙ ap (λ (l : List ℤ). landed_in at (at + k) (line_of f op l w)) (sym in_words)
      ∙ sym (ap (λ (r : Went). placed at (at + k) r)
      (ap (on_decoded f line 0 w) (whole line counter 0 op in_line op_in facts.opcode facts.known count line_reaches count_in line_room g)))

  local_many : operands_of (row_of op).takes counter < count → step_of f sheet at w ≡ placed at (at + k) (step_of f line 0 w)
  unfolding step_of on_decoded
  local_many g =
      ap (on_decoded f sheet at w) (too_many sheet counter at op here op_at facts.opcode facts.known count reaches count_at room g)
      ∙ sym (ap (λ (r : Went). placed at (at + k) r)
      (ap (on_decoded f line 0 w) (too_many line counter 0 op in_line op_in facts.opcode facts.known count line_reaches count_in line_room g)))

  local_by : (t : Bool) → ltb (operands_of (row_of op).takes counter) count ≡ t → step_of f sheet at w ≡ placed at (at + k) (step_of f line 0 w)
  local_by true t = local_many (ltb-true (operands_of (row_of op).takes counter) count t)
  local_by false t = local_whole (ltb-false (operands_of (row_of op).takes counter) count t)

  pub step_local : step_of f sheet at w ≡ placed at (at + k) (step_of f (take k (drop at sheet)) 0 w)
  step_local = local_by (ltb (operands_of (row_of op).takes counter) count) refl

  -- fed, it is done at once
  pub line_fed : (base lines : ℕ) → fed_all f (going base lines [] w) (drop at sheet)
      ≡ fed_all f (after_line (going base lines (take k (drop at sheet)) w) (step_of f (take k (drop at sheet)) 0 w)) (drop (at + k) sheet)
  unfolding waits
  line_fed base lines =
      let none : waits (look_of []) ≡ true = ap waits (no_word 0 _ _ (omega arith)) in
      let n : k - 0 ≡ k = omega arith in
      are_line f base lines [] w words none e
      ∙ ap (fed_all f (after_line (going base lines line w) (step_of f line 0 w))) (ap (λ (i : ℕ). drop i words) n ∙ drop-drop k at sheet)

  pub line_long : length (take k (drop at sheet)) ≡ k
  line_long = long

  pub line_there : at < length sheet
  line_there = here

-- ---- a run of lines
-- a run's refusal, if the line that it stopped at is whole
abbrev pub refusal : List ℤ → Ran → Result ⊤ Refusal
refusal sheet r = refusal_by r.answer (whole_at sheet r.place)

-- how a feed goes on after a run of its lines, whose sheet's first word is the feed's at `origin`, and before which so many lines were finished: with the
-- words from where the run stopped, or not at all
unfoldable pub on_by : Fixed → List ℤ → ℕ → ℕ → Ran → Result ⊤ Refusal → Feeding
on_by f sheet origin before r (Ok tt) = fed_all f (going (origin + r.place) (before + r.lines) [] r.world) (drop r.place sheet)
on_by f sheet origin before r (Err why) = record { said = Refused why; base = origin + r.place; lines = before + r.lines; pending = []; world = r.world }

-- a whole line was refused, or no whole line follows
pub data How (sheet : List ℤ) (r : Ran) : Type 0 where
  Stops : (why : Refusal) → refusal sheet r ≡ Err why → How sheet r
  Rests : refusal sheet r ≡ Ok tt → whole_at sheet r.place ≡ 0 → How sheet r

pub record Goes (f : Fixed) (sheet : List ℤ) (origin before n at : ℕ) (w : World) (r : Ran) : Type 0 where
  pub same : fed_all f (going (origin + at) (before + n) [] w) (drop at sheet) ≡ on_by f sheet origin before r (refusal sheet r)
  pub place : r.place ≤ length sheet
  pub lines : r.lines ≤ n + length (drop at sheet)
  pub how : How sheet r

-- a run that stops where no whole line stands
pub rests : (f : Fixed) (sheet : List ℤ) (origin before n at : ℕ) (w : World) (a : Answer) → at ≤ length sheet → whole_at sheet at ≡ 0 → refusal_by a 0 ≡ Ok tt
    → Goes f sheet origin before n at w (ends a n at w)
unfolding on_by
rests f sheet origin before n at w a h z d =
    let done : refusal_by a (whole_at sheet at) ≡ (Ok tt) = ap (refusal_by a) z ∙ d in
    record { same = sym (ap (on_by f sheet origin before (ends a n at w)) done); place = h; lines = omega arith; how = Rests done z }

pub finished_rests : refusal_by Finished 0 ≡ Ok tt
unfolding refusal_by
finished_rests = refl

used_rests : refusal_by OutOfBudget 0 ≡ Ok tt
unfolding refusal_by
used_rests = refl

pub unread_rests : (why : Refusal) → refusal_by (RefusedRun why) 0 ≡ Ok tt
unfolding refusal_by
unread_rests why = refl

pub own_refusal : (why : Refusal) (k : ℕ) → 0 < k → refusal_by (RefusedRun why) k ≡ Err why
unfolding refusal_by
own_refusal why k h = rw (lt-ltb 0 k h)

pub no_refusal : (why : Refusal) (k : ℕ) → k ≤ 0 → refusal_by (RefusedRun why) k ≡ Ok tt
unfolding refusal_by
no_refusal why k h = rw (le-ltb 0 k h)

no_lines : (f : Fixed) (sheet : List ℤ) (origin before n at : ℕ) (w : World) → at ≤ length sheet → whole_at sheet at ≡ 0 → (t : Bool)
    → Goes f sheet origin before n at w (cond t (ends OutOfBudget n at w) (ends Finished n at w))
no_lines f sheet origin before n at w h z true = rests f sheet origin before n at w OutOfBudget h z used_rests
no_lines f sheet origin before n at w h z false = rests f sheet origin before n at w Finished h z finished_rests

-- a line's call, and what follows: `line` are its words, and `rest` the run from behind it
module _ (f : Fixed) (sheet : List ℤ) (origin before n at k : ℕ) (line : List ℤ) (long : length line ≡ k) (some : 0 < k) (whole : whole_at sheet at ≡ k)
    (inside : at + k ≤ length sheet) (rest : ℕ → World → Ran) (ih : (v : World) → Goes f sheet origin before (suc n) (at + k) v (rest (at + k) v)) where
  by_call : (w v : World) (call : Result ⊤ Refusal) → fed_all f (going (origin + at) (before + n) [] w) (drop at sheet) ≡ fed_all f (after_call (going (origin + at) (before + n) line w) v call) (drop (at + k) sheet)
      → Goes f sheet origin before n at w (on_call rest n (place_after at (at + k) call) v call)
  unfolding after_call on_call on_by said_is_open
  by_call w v (Ok tt) e =
      let next = ih v in
      let base : origin + at + length line ≡ origin + (at + k) = omega (arith, long) in
      let done : suc (before + n) ≡ before + suc n = omega arith in
      record {
        same = e ∙ ap (λ (b : ℕ). fed_all f (going b (suc (before + n)) [] v) (drop (at + k) sheet)) base
            ∙ ap (λ (l : ℕ). fed_all f (going (origin + (at + k)) l [] v) (drop (at + k) sheet)) done ∙ next.same;
        place = next.place;
        lines = omega (arith, next.lines, some, inside, length-drop at sheet, length-drop (at + k) sheet);
        how = next.how;
      }
  by_call w v (Err why) e =
      let is : refusal sheet (ends (RefusedRun why) n at v) ≡ Err why = own_refusal why (whole_at sheet at) (omega (arith, whole, some)) in
      record {
        same = e ∙ stays f (record { said = Refused why; base = origin + at; lines = before + n; pending = []; world = v }) (drop (at + k) sheet) refl
            ∙ sym (ap (on_by f sheet origin before (ends (RefusedRun why) n at v)) is);
        place = omega (arith, inside);
        lines = omega arith;
        how = Stops why is;
      }

pub run_line : (f : Fixed) (sheet : List ℤ) (b n at : ℕ) (w : World) → at < length sheet
    → replay_of f sheet (suc b) n at w ≡ on_call (replay_of f sheet b (suc n)) n (step_of f sheet at w).place (step_of f sheet at w).world (step_of f sheet at w).call
unfolding replay_of
run_line f sheet b n at w h = rw (lt-ltb at (length sheet) h)

-- a whole line, and the run of those behind it
pub one_line : (f : Fixed) (sheet : List ℤ) (origin before m n at k : ℕ) (w : World) → look_of (drop at sheet) ≡ Whole k
    → ((v : World) → Goes f sheet origin before (suc n) (at + k) v (replay_of f sheet m (suc n) (at + k) v))
    → Goes f sheet origin before n at w (replay_of f sheet (suc m) n at w)
unfolding whole_by
one_line f sheet origin before m n at k w e ih =
    let line = take k (drop at sheet) in
    let r = step_of f line 0 w in
    let there = line_there f sheet at w k e in
    let i = whole_is (length (drop at sheet)) _ _ e in
    let is : replay_of f sheet (suc m) n at w ≡ on_call (replay_of f sheet m (suc n)) n (place_after at (at + k) r.call) r.world r.call =
    run_line f sheet m n at w there
    ∙ ap (λ (g : Went). on_call (replay_of f sheet m (suc n)) n g.place g.world g.call) (step_local f sheet at w k e) in
    subst (Goes f sheet origin before n at w) (sym is)
    (by_call f sheet origin before n at k line (line_long f sheet at w k e) (omega (arith, i.is)) (ap whole_by e) (omega (arith, there, i.there, length-drop at sheet))
    (replay_of f sheet m (suc n)) ih w r.world r.call (line_fed f sheet at w k e (origin + at) (before + n)))

-- as many lines as were counted
pub counted_run : (f : Fixed) (sheet : List ℤ) (origin before m n at end : ℕ) (w : World) → Lines sheet m at end → end ≤ length sheet → whole_at sheet end ≡ 0
    → Goes f sheet origin before n at w (replay_of f sheet m n at w)
unfolding Lines replay_of
counted_run f sheet origin before zero n at end w l h z =
    no_lines f sheet origin before n at w (omega (arith, l, h)) (ap (whole_at sheet) l ∙ z) (ltb at (length sheet))
counted_run f sheet origin before (suc m) n at end w l h z =
    one_line f sheet origin before m n at (whole_at sheet at) w (is_whole (look_of (drop at sheet)) l.0)
    (λ v. counted_run f sheet origin before m (suc n) (at + whole_at sheet at) end v l.1 h z)
