-- Demand 3, the second half: a run whose vectors lie along an axis, where no line reached mixes the axes or interpolates across, leaves every glyph point's
-- coordinate and touch mark across the axis, refused or not. Line by line: each leaves them, and leaves the vectors along the axis. Assumes nothing.
use Rattle.opcodes.specs.declared.Operands.{Operands}
use Rattle.std.specs.Prelude.{⊤, Result, Ok, Err}
use Rattle.answer.specs.declared.Refusal.{Refusal}
use mathlib.Core.Bool.{Bool, ◌&&◌, ◌||◌, cond, false, not, true}
use mathlib.Core.List.{List, [], ◌∷◌, map}
use Prim.Native.Nat.{◌-◌, suc, zero, ℕ}
use mathlib.Core.Path.{◌∙◌, ◌≡◌, ap, refl, subst, sym}
use lib.ListN.{drop, length, take}
use lib.Dec.{ltb}
use borrow.Author.Tests.{not-true}
use lib.IntN.{ℤ}
use Rattle.flags.specs.declared.Axis.{Axis}
use Rattle.line.specs.World.{Fixed, World}
use Rattle.run_lines.specs.Onward.{Ran, on_call, on_went, replay_of}
use Rattle.replay.specs.Run.{entered, on_entry as runOnEntry, run_of}
use Rattle.run_step.specs.Step.{on_decoded, step_of}
use Rattle.laws_axes.specs.Axes.{Straight, interpolates_across, mixes}
use Rattle.laws_axes.proofs.Inert.{stays, then}
use Rattle.laws_axes.proofs.Held.{StillSince}
use Rattle.flags.specs.declared.Axis.TheVariants.{X, Y}
use Rattle.laws_axes.specs.Reached.{after_call, after_line, lines_reached, none, reached_on_entry, opcode_at, reached_from}
use Rattle.graphics.specs.State.{all_along, x_axis, y_axis}
use Rattle.graphics.proofs.Laws.{and_left, and_right}
use Rattle.flags.specs.Flag.{bit}
use Rattle.opcodes.specs.Decode.{decode_of}
use Rattle.laws_axes.proofs.Table.{line_still, or_left, or_right}
use Rattle.laws_axes.proofs.RunSteps.{Named, all_named, free_here, step_straight}
use Rattle.laws_axes.proofs.Across.{works_across}

on_still : (a : Axis) (f : Fixed) (sheet : List ℤ) (at : ℕ) (w : World) → Straight a w.state → (op : ℕ) → works_across a op ≡ false → (d : Result Operands Refusal) → Named op d
    → StillSince a w (on_decoded f sheet at w d).world
unfolding on_decoded Named
on_still a f sheet at w e op m (Ok line) n =
    let it = ap (works_across a) n ∙ m in
    line_still a f line.opcode (take (line.end - line.first) (drop line.first sheet)) w e (or_left (mixes a line.opcode) (interpolates_across a line.opcode) it) (or_right (mixes a line.opcode) (interpolates_across a line.opcode) it)
on_still a f sheet at w e op m (Err why) n = stays a w.gx w.gy w.gflags

step_still : (a : Axis) (f : Fixed) (sheet : List ℤ) (at : ℕ) (w : World) → Straight a w.state → works_across a (opcode_at sheet at) ≡ false
    → StillSince a w (step_of f sheet at w).world
unfolding step_of
step_still a f sheet at w e m =
    on_still a f sheet at w e (opcode_at sheet at) m (decode_of sheet w.state.loop_counter at) (all_named sheet w.state.loop_counter at)

module _ (a : Axis) (f : Fixed) (sheet : List ℤ) where
  by_test : (w : World) (t : Bool) (r s : Ran) → (t ≡ true → StillSince a w r.world) → StillSince a w s.world → StillSince a w (cond t r s).world
  by_test w true r s p q = p refl
  by_test w false r s p q = q

  after : (b n : ℕ) → ((at : ℕ) (x : World) → Straight a x.state → none (works_across a) (reached_from f sheet b at x) ≡ true
      → StillSince a x (replay_of f sheet b (suc n) at x).world)
      → (w : World) (call : Result ⊤ Refusal) (place : ℕ) (x : World) → StillSince a w x → Straight a x.state
      → none (works_across a) (after_call (reached_from f sheet b) place x call) ≡ true
      → StillSince a w (on_call (replay_of f sheet b (suc n)) n place x call).world
  unfolding on_call after_call
  after b n ih w (Ok tt) place x k e free = then (ih place x e free) k
  after b n ih w (Err why) place x k e free = k

  turn : (b n at : ℕ) (w : World) → ((p : ℕ) (x : World) → Straight a x.state → none (works_across a) (reached_from f sheet b p x) ≡ true
      → StillSince a x (replay_of f sheet b (suc n) p x).world)
      → Straight a w.state
      → not (works_across a (opcode_at sheet at)) && none (works_across a) (after_line (reached_from f sheet b) (step_of f sheet at w)) ≡ true
      → StillSince a w (on_went (replay_of f sheet b (suc n)) n (step_of f sheet at w)).world
  turn b n at w ih e free =
      let g = step_of f sheet at w in
      let m = not-true (works_across a (opcode_at sheet at)) (and_left (not (works_across a (opcode_at sheet at))) _ free) in
      after b n ih w g.call g.place g.world (step_still a f sheet at w e m)
      (step_straight a f sheet at w e (or_left (mixes a (opcode_at sheet at)) (interpolates_across a (opcode_at sheet at)) m))
      (and_right (not (works_across a (opcode_at sheet at))) _ free)

  replay_still : (b n at : ℕ) (w : World) → Straight a w.state → none (works_across a) (reached_from f sheet b at w) ≡ true
      → StillSince a w (replay_of f sheet b n at w).world
  unfolding replay_of reached_from
  replay_still zero n at w e free =
      by_test w (ltb at (length sheet)) _ _ (λ _. stays a w.gx w.gy w.gflags) (stays a w.gx w.gy w.gflags)
  replay_still (suc b) n at w e free =
      by_test w (ltb at (length sheet)) _ _
      (λ here. turn b n at w (λ p x. replay_still b (suc n) p x) e (free_here (works_across a) (ltb at (length sheet)) _ _ here free))
      (stays a w.gx w.gy w.gflags)

entry_still : (a : Axis) (f : Fixed) (sheet : List ℤ) (budget start : ℕ) (w : World) → Straight a w.state → (call : Result ⊤ Refusal)
    → none (works_across a) (reached_on_entry (reached_from f sheet budget start w) call) ≡ true
    → StillSince a w (runOnEntry f sheet budget start w call).world
unfolding runOnEntry reached_on_entry
entry_still a f sheet budget start w e (Ok tt) free = replay_still a f sheet budget 0 start w e free
entry_still a f sheet budget start w e (Err why) free = stays a w.gx w.gy w.gflags

-- no glyph point's coordinate or touch mark across the axis has changed
pub across_still : (a : Axis) (f : Fixed) (sheet : List ℤ) (budget start : ℕ) (w : World) → Straight a w.state
    → none (works_across a) (lines_reached f sheet budget start w) ≡ true
    → StillSince a w (run_of f sheet budget start w).world
unfolding run_of lines_reached
across_still a f sheet budget start w e free =
    entry_still a f sheet budget start w e (entered f sheet start w) free

-- the same of the public call: whatever a call of `run` returns and leaves, by its contract
pub run_still : (a : Axis) (f : Fixed) (sheet : List ℤ) (budget start : ℕ) (w : World) (r : Ran) → r ≡ run_of f sheet budget start w → Straight a w.state
    → none (works_across a) (lines_reached f sheet budget start w) ≡ true
    → StillSince a w r.world
run_still a f sheet budget start w r e straight free = subst (λ (x : Ran). StillSince a w x.world) (sym e) (across_still a f sheet budget start w straight free)

-- ---- the two instances
neither : (m i r s t : Bool) → not m && r ≡ true → not i && s ≡ true → (r ≡ true → s ≡ true → t ≡ true) → not (m || i) && t ≡ true
neither false false r s t p q both = both p q
neither false true r s t p q both = cc q
neither true i r s t p q both = cc p

none_across : (a : Axis) (ops : List ℕ) → none (mixes a) ops ≡ true → none (interpolates_across a) ops ≡ true → none (works_across a) ops ≡ true
none_across a [] p q = refl
none_across a (op ∷ ops) p q =
    neither (mixes a op) (interpolates_across a op) (none (mixes a) ops) (none (interpolates_across a) ops) (none (works_across a) ops) p q (none_across a ops)

-- vectors straight up, no line reached mixing the axes, and none IUP[x]: every glyph point's x and x-touch mark is what it was
pub vertical_run_still : (f : Fixed) (sheet : List ℤ) (budget start : ℕ) (w : World) → w.state.vectors ≡ all_along y_axis
    → none (mixes Y) (lines_reached f sheet budget start w) ≡ true → none (interpolates_across Y) (lines_reached f sheet budget start w) ≡ true
    → ((run_of f sheet budget start w).world.gx ≡ w.gx) × (map (bit 1) (run_of f sheet budget start w).world.gflags ≡ map (bit 1) w.gflags)
vertical_run_still f sheet budget start w straight free still =
    let s = across_still Y f sheet budget start w straight (none_across Y (lines_reached f sheet budget start w) free still) in
    (s.coordinates, s.marks)

-- vectors level, no line reached mixing the axes, and none IUP[y]: every glyph point's y and y-touch mark is what it was
pub horizontal_run_still : (f : Fixed) (sheet : List ℤ) (budget start : ℕ) (w : World) → w.state.vectors ≡ all_along x_axis
    → none (mixes X) (lines_reached f sheet budget start w) ≡ true → none (interpolates_across X) (lines_reached f sheet budget start w) ≡ true
    → ((run_of f sheet budget start w).world.gy ≡ w.gy) × (map (bit 2) (run_of f sheet budget start w).world.gflags ≡ map (bit 2) w.gflags)
horizontal_run_still f sheet budget start w straight free still =
    let s = across_still X f sheet budget start w straight (none_across X (lines_reached f sheet budget start w) free still) in
    (s.coordinates, s.marks)
