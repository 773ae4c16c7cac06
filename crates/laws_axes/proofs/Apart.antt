-- Demand 3, the first half: two runs of one sheet over worlds that are seen alike along an axis, the vectors along it, no line reached mixing the axes, end
-- alike along it. Line by line the same line is read, does the same along the axis and leaves the vectors along it; the entry tests look at lengths,
-- the state and the start alone. `axes_apart` is said of the definition that `run` equals, for either axis; Plain.antt has it in plain words. Assumes nothing.
use Rattle.std.specs.Prelude.{⊤, Result, Ok, Err}
use Rattle.answer.specs.declared.Refusal.{Refusal}
use mathlib.Core.Bool.{Bool, ◌&&◌, cond, false, not, true}
use mathlib.Core.List.{List, [], ◌∷◌}
use mathlib.Core.Path.{◌∙◌, ◌≡◌, ap, ap₂, refl, subst, sym}
use lib.Dec.{leb, ltb}
use lib.ListN.{length}
use borrow.Author.Tests.{not-true}
use Prim.Native.Nat.{suc, zero, ℕ}
use lib.IntN.{ℤ}
use Rattle.run_lines.specs.declared.Answer.{Answer}
use Rattle.flags.specs.declared.Axis.{Axis}
use Rattle.run_lines.specs.declared.Answer.TheVariants.{Finished, OutOfBudget, Refused}
use Rattle.line.specs.World.{Fixed, World}
use Rattle.run_lines.specs.Onward.{Ran, ends, on_call, on_went, replay_of}
use Rattle.replay.specs.Run.{entered, entry_of, on_entry as runOnEntry, run_of}
use Rattle.run_step.specs.Step.{Went, step_of}
use Rattle.line.specs.Sizes.{fits, world_fits}
use Rattle.laws_axes.specs.Reached.{SameAlong, after_call, after_line, lines_reached, none, reached_on_entry, opcode_at, reached_from}
use Rattle.laws_axes.specs.Axes.{Straight, fixed_seen, mixes, world_seen}
use Rattle.flags.specs.declared.Axis.TheVariants.{X, Y}
use Rattle.contour_ends.specs.Ends.{ends_rise}
use Rattle.graphics.specs.State.{all_along, usable_state, x_axis, y_axis}
use Rattle.graphics.proofs.Laws.{and_left, and_right}
use Rattle.zone.specs.Sizes.{glyph_fits, pair_fits, placed_fits, twilight_fits}
use Rattle.laws_axes.proofs.Seen.{x_length, y_length}
use Rattle.laws_axes.proofs.RunSteps.{free_here, step_straight, steps_alike}

module _ (a : Axis) (f g : Fixed) (sheet : List ℤ) (ef : fixed_seen a f ≡ fixed_seen a g) where
  same_ends : (answer : Answer) (n place place' : ℕ) (w v : World) → place ≡ place' → world_seen a w ≡ world_seen a v
      → SameAlong a (ends answer n place w) (ends answer n place' v)
  same_ends answer n place place' w v ep ew = record { answer = refl; place = ep; lines = refl; worlds = ew }

  same_by_test : (t : Bool) (r r' s s' : Ran) → (t ≡ true → SameAlong a r s) → SameAlong a r' s' → SameAlong a (cond t r r') (cond t s s')
  same_by_test true r r' s s' p q = p refl
  same_by_test false r r' s s' p q = q

  -- the rest of two runs, after a line that said the same
  after : (b n : ℕ) → ((at : ℕ) (w v : World) → world_seen a w ≡ world_seen a v → Straight a w.state → none (mixes a) (reached_from f sheet b at w) ≡ true
      → SameAlong a (replay_of f sheet b (suc n) at w) (replay_of g sheet b (suc n) at v))
      → (call : Result ⊤ Refusal) (place place' : ℕ) (w v : World) → place ≡ place' → world_seen a w ≡ world_seen a v → Straight a w.state
      → none (mixes a) (after_call (reached_from f sheet b) place w call) ≡ true
      → SameAlong a (on_call (replay_of f sheet b (suc n)) n place w call) (on_call (replay_of g sheet b (suc n)) n place' v call)
  unfolding on_call after_call
  after b n ih (Ok tt) place place' w v ep ew e free =
      subst (λ (p : ℕ). SameAlong a (replay_of f sheet b (suc n) place w) (replay_of g sheet b (suc n) p v)) ep (ih place w v ew e free)
  after b n ih (Err why) place place' w v ep ew e free = same_ends (Refused why) n place place' w v ep ew

  -- one turn of two runs, where the rest of them is apart
  turn : (b n at : ℕ) (w v : World) → ((p : ℕ) (x y : World) → world_seen a x ≡ world_seen a y → Straight a x.state → none (mixes a) (reached_from f sheet b p x) ≡ true
      → SameAlong a (replay_of f sheet b (suc n) p x) (replay_of g sheet b (suc n) p y))
      → world_seen a w ≡ world_seen a v → Straight a w.state
      → not (mixes a (opcode_at sheet at)) && none (mixes a) (after_line (reached_from f sheet b) (step_of f sheet at w)) ≡ true
      → SameAlong a (on_went (replay_of f sheet b (suc n)) n (step_of f sheet at w)) (on_went (replay_of g sheet b (suc n)) n (step_of g sheet at v))
  turn b n at w v ih ew e free =
      let first = step_of f sheet at w in
      let second = step_of g sheet at v in
      let m = not-true (mixes a (opcode_at sheet at)) (and_left (not (mixes a (opcode_at sheet at))) _ free) in
      let alike = steps_alike a f g sheet at w v ef ew e m in
      subst
      (λ (c : Result ⊤ Refusal). SameAlong a (on_went (replay_of f sheet b (suc n)) n first) (on_call (replay_of g sheet b (suc n)) n second.place second.world c))
      (ap (λ (x : Went). x.call) alike)
      (after b n ih first.call first.place second.place first.world second.world (ap (λ (x : Went). x.place) alike) (ap (λ (x : Went). x.world) alike)
      (step_straight a f sheet at w e m)
      (and_right (not (mixes a (opcode_at sheet at))) _ free))

  pub replays_apart : (b n at : ℕ) (w v : World) → world_seen a w ≡ world_seen a v → Straight a w.state → none (mixes a) (reached_from f sheet b at w) ≡ true
      → SameAlong a (replay_of f sheet b n at w) (replay_of g sheet b n at v)
  unfolding replay_of reached_from
  replays_apart zero n at w v ew e free =
      same_by_test (ltb at (length sheet)) _ _ _ _ (λ _. same_ends OutOfBudget n at at w v refl ew) (same_ends Finished n at at w v refl ew)
  replays_apart (suc b) n at w v ew e free =
      same_by_test (ltb at (length sheet)) _ _ _ _
      (λ here. turn b n at w v (λ p x y. replays_apart b (suc n) p x y) ew e (free_here (mixes a) (ltb at (length sheet)) _ _ here free))
      (same_ends Finished n at at w v refl ew)

-- ---- the entry
-- the sizes and the contours' ends hang on what is seen
fits_seen : (a : Axis) (f : Fixed) (sheet : List ℤ) (w : World) → world_fits (fixed_seen a f) sheet (world_seen a w) ≡ world_fits f sheet w
unfolding fits glyph_fits twilight_fits pair_fits placed_fits
fits_seen a f sheet w =
    rw (x_length a f.gux, y_length a f.guy, x_length a f.gox, y_length a f.goy, x_length a w.gx, y_length a w.gy, x_length a w.tox, y_length a w.toy, x_length a w.tx, y_length a w.ty)

pub entry_alike : (a : Axis) (f g : Fixed) (sheet : List ℤ) (start : ℕ) (w v : World) → fixed_seen a f ≡ fixed_seen a g → world_seen a w ≡ world_seen a v
    → entered f sheet start w ≡ entered g sheet start v
entry_alike a f g sheet start w v ef ew =
    ap₂ (λ (t u : Bool). entry_of t u (usable_state w.state) (leb start (length sheet)))
    (sym (fits_seen a f sheet w) ∙ ap₂ (λ (x : Fixed) (y : World). world_fits x sheet y) ef ew ∙ fits_seen a g sheet v)
    (ap₂ ends_rise (sym (x_length a w.gx) ∙ ap (λ (y : World). length y.gx) ew ∙ x_length a v.gx) (ap (λ (x : Fixed). x.contours) ef))
    ∙ ap (λ (y : World). entry_of (world_fits g sheet v) (ends_rise (length v.gx) g.contours) (usable_state y.state) (leb start (length sheet))) ew

entry_apart : (a : Axis) (f g : Fixed) (sheet : List ℤ) (budget start : ℕ) (w v : World) → fixed_seen a f ≡ fixed_seen a g → world_seen a w ≡ world_seen a v
    → Straight a w.state → (call : Result ⊤ Refusal) → none (mixes a) (reached_on_entry (reached_from f sheet budget start w) call) ≡ true
    → SameAlong a (runOnEntry f sheet budget start w call) (runOnEntry g sheet budget start v call)
unfolding runOnEntry reached_on_entry
entry_apart a f g sheet budget start w v ef ew e (Ok tt) free = replays_apart a f g sheet ef budget 0 start w v ew e free
entry_apart a f g sheet budget start w v ef ew e (Err why) free = record { answer = refl; place = refl; lines = refl; worlds = ew }

-- two runs of one sheet whose starts are seen alike along an axis
pub axes_apart : (a : Axis) (f g : Fixed) (sheet : List ℤ) (budget start : ℕ) (w v : World) → fixed_seen a f ≡ fixed_seen a g → world_seen a w ≡ world_seen a v
    → Straight a w.state → none (mixes a) (lines_reached f sheet budget start w) ≡ true
    → SameAlong a (run_of f sheet budget start w) (run_of g sheet budget start v)
unfolding run_of lines_reached
axes_apart a f g sheet budget start w v ef ew e free =
    subst (λ (c : Result ⊤ Refusal). SameAlong a (runOnEntry f sheet budget start w (entered f sheet start w)) (runOnEntry g sheet budget start v c))
    (entry_alike a f g sheet start w v ef ew)
    (entry_apart a f g sheet budget start w v ef ew e (entered f sheet start w) free)

-- the same of the public call: whatever two calls of `run` return and leave, by its contract
pub runs_apart : (a : Axis) (f g : Fixed) (sheet : List ℤ) (budget start : ℕ) (w v : World) (r s : Ran) → r ≡ run_of f sheet budget start w → s ≡ run_of g sheet budget start v
    → fixed_seen a f ≡ fixed_seen a g → world_seen a w ≡ world_seen a v → Straight a w.state → none (mixes a) (lines_reached f sheet budget start w) ≡ true
    → SameAlong a r s
runs_apart a f g sheet budget start w v r s er es ef ew e free =
    let both = axes_apart a f g sheet budget start w v ef ew e free in
    record {
      answer = ap (λ (x : Ran). x.answer) er ∙ both.answer ∙ sym (ap (λ (x : Ran). x.answer) es);
      place = ap (λ (x : Ran). x.place) er ∙ both.place ∙ sym (ap (λ (x : Ran). x.place) es);
      lines = ap (λ (x : Ran). x.lines) er ∙ both.lines ∙ sym (ap (λ (x : Ran). x.lines) es);
      worlds = ap (λ (x : Ran). world_seen a x.world) er ∙ both.worlds ∙ sym (ap (λ (x : Ran). world_seen a x.world) es);
    }

-- ---- the two instances
-- vectors straight up: what differs in x alone ends with the same y, flags, state, answer, place and count
pub vertical_runs_apart : (f g : Fixed) (sheet : List ℤ) (budget start : ℕ) (w v : World) → fixed_seen Y f ≡ fixed_seen Y g → world_seen Y w ≡ world_seen Y v
    → w.state.vectors ≡ all_along y_axis → none (mixes Y) (lines_reached f sheet budget start w) ≡ true
    → SameAlong Y (run_of f sheet budget start w) (run_of g sheet budget start v)
vertical_runs_apart = axes_apart Y

-- vectors level: the same with the axes exchanged
pub horizontal_runs_apart : (f g : Fixed) (sheet : List ℤ) (budget start : ℕ) (w v : World) → fixed_seen X f ≡ fixed_seen X g → world_seen X w ≡ world_seen X v
    → w.state.vectors ≡ all_along x_axis → none (mixes X) (lines_reached f sheet budget start w) ≡ true
    → SameAlong X (run_of f sheet budget start w) (run_of g sheet budget start v)
horizontal_runs_apart = axes_apart X
