-- The budget rule of document 01, "A sheet and its lines": two runs, the second from the place where the first ended with answer 1, equal one run with
-- the summed budget, the counts added. By induction on the first budget; the first run keeps what the entry tests, so that the second is
-- entered too. The definition takes any numbers; the public call's budgets are u64, and where their sum is one too, all three runs are its
-- own. Assumes nothing.
use Rattle.std.specs.Prelude.{⊤, Result, Ok, Err}
use mathlib.Core.Bool.{Bool, cond, false, true}
use mathlib.Core.List.{List}
use Prim.Native.Nat.{◌+◌, ◌≤◌, suc, zero, ℕ}
use mathlib.Core.Path.{◌∙◌, ◌≡◌, ap, refl, sym}
use native.Mathlib.Nat.{add-suc, add-zero, suc-add, zero-add}
use borrow.Author.Tests.{le-leb, leb-true, ltb-false}
use lib.Dec.{leb, ltb}
use lib.ListN.{length}
use lib.IntN.{ℤ}
use Rattle.run_lines.specs.declared.Answer.{Answer}
use Rattle.run_lines.specs.declared.Answer.TheVariants.{Finished, OutOfBudget, Refused}
use Rattle.line.specs.World.{Fixed, World, world}
use Rattle.run_lines.specs.Onward.{Ran, ends, on_call, replay_of}
use Rattle.replay.specs.Run.{entered, entry_of, on_entry, run_of}
use Rattle.run_step.specs.Step.{step_of}
use Rattle.line.specs.Sizes.{world_fits}
use Rattle.answer.specs.declared.Refusal.{Refusal}
use Rattle.run_lines.proofs.Loop.{at_end}
use Rattle.replay.proofs.Entry.{Entered, entered_by, not_entered, run_entered}
use Rattle.graphics.specs.State.{usable_state}
use Rattle.laws_run.proofs.Keeps.{run_keeps, still_fits, still_rising}
use Rattle.laws_run.proofs.Place.{run_place}
use Rattle.laws_run.proofs.Counted.{counted}

-- the run goes on with a further budget where the first was used up
unfoldable pub on_answer : Fixed → List ℤ → ℕ → Ran → Answer → Ran
on_answer f sheet b r OutOfBudget = replay_of f sheet b r.lines r.place r.world
on_answer f sheet b r Finished = r
on_answer f sheet b r (Refused why) = r

unfoldable pub resume : Fixed → List ℤ → ℕ → Ran → Ran
resume f sheet b r = on_answer f sheet b r r.answer

-- ---- one run, split
split_none : (f : Fixed) (sheet : List ℤ) (b n at : ℕ) (w : World) (t : Bool) → ltb at (length sheet) ≡ t
    → replay_of f sheet b n at w ≡ resume f sheet b (cond t (ends OutOfBudget n at w) (ends Finished n at w))
unfolding resume on_answer
split_none f sheet b n at w true e = refl
split_none f sheet b n at w false e = sym (at_end f sheet b n at w (ltb-false at (length sheet) e))

split_call : (f : Fixed) (sheet : List ℤ) (b n place : ℕ) (w : World) (call : Result ⊤ Refusal) (k k' : ℕ → World → Ran)
    → ((p : ℕ) (v : World) → k p v ≡ resume f sheet b (k' p v))
    → on_call k n place w call ≡ resume f sheet b (on_call k' n place w call)
unfolding on_call resume on_answer
split_call f sheet b n place w (Ok tt) k k' ih = ih place w
split_call f sheet b n place w (Err why) k k' ih = refl

split_test : (f : Fixed) (sheet : List ℤ) (b n at : ℕ) (w : World) (t : Bool) (r r' : Ran) → r ≡ resume f sheet b r'
    → cond t r (ends Finished n at w) ≡ resume f sheet b (cond t r' (ends Finished n at w))
unfolding resume on_answer
split_test f sheet b n at w true r r' e = e
split_test f sheet b n at w false r r' e = refl

pub split : (f : Fixed) (sheet : List ℤ) (a b n at : ℕ) (w : World)
    → replay_of f sheet (a + b) n at w ≡ resume f sheet b (replay_of f sheet a n at w)
unfolding replay_of
split f sheet zero b n at w = rw (zero-add b) (split_none f sheet b n at w (ltb at (length sheet)) refl)
split f sheet (suc a) b n at w =
    let g = step_of f sheet at w in
    rw (suc-add a b)
    (split_test f sheet b n at w (ltb at (length sheet)) _ _
    (split_call f sheet b n g.place g.world g.call (replay_of f sheet (a + b) (suc n)) (replay_of f sheet a (suc n))
    (λ p v. split f sheet a b (suc n) p v)))

-- ---- the count
count_none : (m n at : ℕ) (w : World) (t : Bool)
    → cond t (ends OutOfBudget (m + n) at w) (ends Finished (m + n) at w) ≡ counted m (cond t (ends OutOfBudget n at w) (ends Finished n at w))
count_none m n at w true = refl
count_none m n at w false = refl

count_call : (m n place : ℕ) (w : World) (call : Result ⊤ Refusal) (k k' : ℕ → World → Ran) → ((p : ℕ) (v : World) → k p v ≡ counted m (k' p v))
    → on_call k (m + n) place w call ≡ counted m (on_call k' n place w call)
unfolding on_call
count_call m n place w (Ok tt) k k' ih = ih place w
count_call m n place w (Err why) k k' ih = refl

count_test : (m n at : ℕ) (w : World) (t : Bool) (r r' : Ran) → r ≡ counted m r'
    → cond t r (ends Finished (m + n) at w) ≡ counted m (cond t r' (ends Finished n at w))
count_test m n at w true r r' e = e
count_test m n at w false r r' e = refl

pub count : (f : Fixed) (sheet : List ℤ) (b m n at : ℕ) (w : World) → replay_of f sheet b (m + n) at w ≡ counted m (replay_of f sheet b n at w)
unfolding replay_of
count f sheet zero m n at w = count_none m n at w (ltb at (length sheet))
count f sheet (suc b) m n at w =
    let g = step_of f sheet at w in
    count_test m n at w (ltb at (length sheet)) _ _
    (count_call m n g.place g.world g.call (replay_of f sheet b (suc (m + n))) (replay_of f sheet b (suc n))
    (λ p v. ap (λ (k : ℕ). replay_of f sheet b k p v) (sym (add-suc m n)) ∙ count f sheet b m (suc n) p v))

resumed : (f : Fixed) (sheet : List ℤ) (b : ℕ) (r : Ran) → r.answer ≡ OutOfBudget → resume f sheet b r ≡ replay_of f sheet b r.lines r.place r.world
unfolding resume on_answer
resumed f sheet b r e = ap (on_answer f sheet b r) e

not_resumed : (f : Fixed) (sheet : List ℤ) (b : ℕ) (r : Ran) → r.answer ≡ Finished → resume f sheet b r ≡ r
unfolding resume on_answer
not_resumed f sheet b r e = ap (on_answer f sheet b r) e

-- where the first run used its budget up, the second goes on from its place, and the counts are added
pub two_replays : (f : Fixed) (sheet : List ℤ) (a b at : ℕ) (w : World) → (replay_of f sheet a 0 at w).answer ≡ OutOfBudget
    → replay_of f sheet (a + b) 0 at w
    ≡ counted (replay_of f sheet a 0 at w).lines (replay_of f sheet b 0 (replay_of f sheet a 0 at w).place (replay_of f sheet a 0 at w).world)
two_replays f sheet a b at w e =
    let r = replay_of f sheet a 0 at w in
    split f sheet a b 0 at w
    ∙ resumed f sheet b r e
    ∙ ap (λ (k : ℕ). replay_of f sheet b k r.place r.world) (sym (add-zero r.lines))
    ∙ count f sheet b r.lines 0 r.place r.world

-- ---- the public run
entry_of_all : (f : Fixed) (sheet : List ℤ) (b at : ℕ) (w : World) → Entered f sheet at w → run_of f sheet b at w ≡ replay_of f sheet b 0 at w
unfolding run_of on_entry entry_of
entry_of_all f sheet b at w p = rw (p.sized, p.rising, p.usable, le-leb at (length sheet) p.starts)

refused_otherwise : (why : Refusal) (r s : Ran) → Refused why ≡ OutOfBudget → r ≡ s
refused_otherwise why r s e = cc e

finished_otherwise : (why : Refusal) (r s : Ran) → Refused why ≡ Finished → r ≡ s
finished_otherwise why r s e = cc e

module _ (f : Fixed) (sheet : List ℤ) (a b start : ℕ) (w : World) where
  abbrev first : Ran
  first = run_of f sheet a start w

  abbrev tests : Result ⊤ Refusal
  tests = entered f sheet start w

  -- the second run is entered because the first was
  entered_again : tests ≡ Ok tt → run_of f sheet b first.place first.world ≡ replay_of f sheet b 0 first.place first.world
  entered_again told =
      let kept = run_keeps f sheet a start w in
      let passed = entered_by f sheet start w told in
      entry_of_all f sheet b first.place first.world
      (record {
        sized = still_fits f sheet w first.world kept ∙ passed.sized;
        rising = still_rising f w first.world kept ∙ passed.rising;
        usable = kept.usable passed.usable;
        starts = run_place f sheet a start w passed.starts;
      })

  two_entered : tests ≡ Ok tt → first.answer ≡ OutOfBudget
      → run_of f sheet (a + b) start w ≡ counted first.lines (run_of f sheet b first.place first.world)
  two_entered told e =
      let is : replay_of f sheet a 0 start w ≡ first = run_entered f sheet a start w refl told in
      sym (run_entered f sheet (a + b) start w refl told)
      ∙ two_replays f sheet a b start w (ap (λ (r : Ran). r.answer) is ∙ e)
      ∙ ap (λ (r : Ran). counted r.lines (replay_of f sheet b 0 r.place r.world)) is
      ∙ ap (counted first.lines) (sym (entered_again told))

  two_by : (begun : Result ⊤ Refusal) → tests ≡ begun → first.answer ≡ OutOfBudget
      → run_of f sheet (a + b) start w ≡ counted first.lines (run_of f sheet b first.place first.world)
  two_by (Ok tt) told e = two_entered told e
  two_by (Err why) told e = refused_otherwise why _ _ (ap (λ (r : Ran). r.answer) (not_entered f sheet a start w refl told) ∙ e)

  same_entered : tests ≡ Ok tt → first.answer ≡ Finished → run_of f sheet (a + b) start w ≡ first
  same_entered told e =
      let is : replay_of f sheet a 0 start w ≡ first = run_entered f sheet a start w refl told in
      sym (run_entered f sheet (a + b) start w refl told) ∙ split f sheet a b 0 start w ∙ ap (resume f sheet b) is ∙ not_resumed f sheet b first e

  same_by : (begun : Result ⊤ Refusal) → tests ≡ begun → first.answer ≡ Finished → run_of f sheet (a + b) start w ≡ first
  same_by (Ok tt) told e = same_entered told e
  same_by (Err why) told e = finished_otherwise why _ _ (ap (λ (r : Ran). r.answer) (not_entered f sheet a start w refl told) ∙ e)

-- a run that has finished is the same with any further budget
pub finished_runs : (f : Fixed) (sheet : List ℤ) (a b start : ℕ) (w : World) → (run_of f sheet a start w).answer ≡ Finished
    → run_of f sheet (a + b) start w ≡ run_of f sheet a start w
finished_runs f sheet a b start w e = same_by f sheet a b start w (tests f sheet a b start w) refl e

-- the rule
pub two_runs : (f : Fixed) (sheet : List ℤ) (a b start : ℕ) (w : World) → (run_of f sheet a start w).answer ≡ OutOfBudget
    → run_of f sheet (a + b) start w
    ≡ counted (run_of f sheet a start w).lines (run_of f sheet b (run_of f sheet a start w).place (run_of f sheet a start w).world)
two_runs f sheet a b start w e = two_by f sheet a b start w (tests f sheet a b start w) refl e

-- the same of three outcomes that the contract of `run` allows: the first with budget a, the second with b from where the first ended, one with both
pub two_calls : (f : Fixed) (sheet : List ℤ) (a b start : ℕ) (w : World) (first second both : Ran)
    → first ≡ run_of f sheet a start w
    → second ≡ run_of f sheet b first.place first.world
    → both ≡ run_of f sheet (a + b) start w
    → first.answer ≡ OutOfBudget
    → both ≡ counted first.lines second
two_calls f sheet a b start w first second both p q r e =
    r
    ∙ two_runs f sheet a b start w (sym (ap (λ (x : Ran). x.answer) p) ∙ e)
    ∙ ap (λ (x : Ran). counted x.lines (run_of f sheet b x.place x.world)) (sym p)
    ∙ ap (counted first.lines) (sym q)
