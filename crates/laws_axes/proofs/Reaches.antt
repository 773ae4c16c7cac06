-- The runs of demand 3 reach the same lines, so that its premise on the lines reached is asked of one of them and holds of both. By induction on the budget,
-- as the promise itself. Assumes nothing.
use Rattle.std.specs.Prelude.{⊤, Result, Ok, Err}
use Rattle.answer.specs.declared.Refusal.{Refusal}
use mathlib.Core.Bool.{Bool, ◌&&◌, cond, false, not, true}
use mathlib.Core.List.{List, [], ◌∷◌}
use mathlib.Core.Path.{◌∙◌, ◌≡◌, ap, refl}
use lib.Dec.{ltb}
use lib.ListN.{length}
use borrow.Author.Tests.{not-true}
use Prim.Native.Nat.{suc, zero, ℕ}
use lib.IntN.{ℤ}
use Rattle.laws_axes.specs.Axes.{Straight, fixed_seen, mixes, world_seen}
use Rattle.flags.specs.declared.Axis.{Axis}
use Rattle.graphics.proofs.Laws.{and_left, and_right}
use Rattle.run_step.specs.Step.{Went, step_of}
use Rattle.line.specs.World.{Fixed, World}
use Rattle.replay.specs.Run.{entered}
use Rattle.laws_axes.specs.Reached.{after_call, after_line, lines_reached, none, reached_on_entry, opcode_at, reached_from}
use Rattle.laws_axes.proofs.Apart.{entry_alike}
use Rattle.laws_axes.proofs.RunSteps.{free_here, step_straight, steps_alike}

module _ (a : Axis) (f g : Fixed) (sheet : List ℤ) (ef : fixed_seen a f ≡ fixed_seen a g) where
  -- the lines from any place on, with this budget, are the same
  abbrev Same : ℕ → Type 0
  Same b =
      (at : ℕ) (w v : World) → world_seen a w ≡ world_seen a v → Straight a w.state → none (mixes a) (reached_from f sheet b at w) ≡ true
      → reached_from f sheet b at w ≡ reached_from g sheet b at v

  after : (b : ℕ) → Same b → (call : Result ⊤ Refusal) (place : ℕ) (w v : World) → world_seen a w ≡ world_seen a v → Straight a w.state
      → none (mixes a) (after_call (reached_from f sheet b) place w call) ≡ true
      → after_call (reached_from f sheet b) place w call ≡ after_call (reached_from g sheet b) place v call
  unfolding after_call
  after b ih (Ok tt) place w v ew e free = ih place w v ew e free
  after b ih (Err why) place w v ew e free = refl

  turn : (b at : ℕ) (w v : World) → Same b → world_seen a w ≡ world_seen a v → Straight a w.state
      → not (mixes a (opcode_at sheet at)) && none (mixes a) (after_line (reached_from f sheet b) (step_of f sheet at w)) ≡ true
      → after_line (reached_from f sheet b) (step_of f sheet at w) ≡ after_line (reached_from g sheet b) (step_of g sheet at v)
  turn b at w v ih ew e free =
      let first = step_of f sheet at w in
      let second = step_of g sheet at v in
      let m = not-true (mixes a (opcode_at sheet at)) (and_left (not (mixes a (opcode_at sheet at))) _ free) in
      let alike = steps_alike a f g sheet at w v ef ew e m in
      after b ih first.call first.place first.world second.world (ap (λ (x : Went). x.world) alike) (step_straight a f sheet at w e m)
      (and_right (not (mixes a (opcode_at sheet at))) _ free)
      ∙ ap (λ (c : Result ⊤ Refusal). after_call (reached_from g sheet b) first.place second.world c) (ap (λ (x : Went). x.call) alike)
      ∙ ap (λ (p : ℕ). after_call (reached_from g sheet b) p second.world second.call) (ap (λ (x : Went). x.place) alike)

  by_test : (t : Bool) (op : ℕ) (ops ops' : List ℕ) → (t ≡ true → ops ≡ ops') → cond t (op ∷ ops) [] ≡ cond t (op ∷ ops') []
  by_test true op ops ops' p = ap (λ (l : List ℕ). op ∷ l) (p refl)
  by_test false op ops ops' p = refl

  same_from : (b : ℕ) → Same b
  unfolding reached_from
  same_from zero at w v ew e free = refl
  same_from (suc b) at w v ew e free =
      by_test (ltb at (length sheet)) (opcode_at sheet at) _ _
      (λ here. turn b at w v (same_from b) ew e (free_here (mixes a) (ltb at (length sheet)) _ _ here free))

  on_entry_lem : (b start : ℕ) (w v : World) → world_seen a w ≡ world_seen a v → Straight a w.state → (call : Result ⊤ Refusal)
      → none (mixes a) (reached_on_entry (reached_from f sheet b start w) call) ≡ true
      → reached_on_entry (reached_from f sheet b start w) call ≡ reached_on_entry (reached_from g sheet b start v) call
  unfolding reached_on_entry
  on_entry_lem b start w v ew e (Ok tt) free = same_from b start w v ew e free
  on_entry_lem b start w v ew e (Err why) free = refl

-- the runs of `axes_apart`
pub same_lines : (a : Axis) (f g : Fixed) (sheet : List ℤ) (budget start : ℕ) (w v : World) → fixed_seen a f ≡ fixed_seen a g → world_seen a w ≡ world_seen a v
    → Straight a w.state → none (mixes a) (lines_reached f sheet budget start w) ≡ true
    → lines_reached f sheet budget start w ≡ lines_reached g sheet budget start v
unfolding lines_reached
same_lines a f g sheet budget start w v ef ew e free =
    on_entry_lem a f g sheet ef budget start w v ew e (entered f sheet start w) free
    ∙ ap (reached_on_entry (reached_from g sheet budget start v)) (entry_alike a f g sheet start w v ef ew)
