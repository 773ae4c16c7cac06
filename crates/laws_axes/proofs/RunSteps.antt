-- One line of a sheet seen along an axis: what is read off the sheet hangs on the sheet and the loop counter, and the line that is read is the one whose
-- opcode stands there. Assumes nothing.
use Rattle.opcodes.specs.declared.Operands.{Operands}
use Rattle.opcodes.specs.Decode.{decode_by, decode_of, operands}
use Rattle.std.specs.Prelude.{Err, Result, Ok}
use mathlib.Core.Bool.{Bool, ◌&&◌, cond, false, not, true}
use mathlib.Core.List.{List, [], ◌∷◌}
use Prim.Native.Nat.{◌+◌, ◌-◌, ℕ}
use mathlib.Core.Path.{◌∙◌, ◌≡◌, ap, ap₂, refl, sym}
use lib.ListN.{drop, get_or, length, take}
use lib.Dec.{eqb, ltb}
use lib.IntN.{pos, ℤ}
use Rattle.flags.specs.declared.Axis.{Axis}
use Rattle.line.specs.World.{Fixed, World}
use Rattle.answer.specs.declared.Refusal.{Refusal}
use Rattle.answer.specs.declared.Refusal.TheVariants.{Line, Surplus}
use Rattle.laws_axes.specs.Axes.{Straight, fixed_seen, mixes, world_seen}
use Rattle.run_step.specs.Step.{Went, landed_in, on_decoded, step_of}
use Rattle.opcodes.specs.Table.{need_of, operands_of, row_of, unknown}
use Rattle.int.specs.Word.{index_of}
use Rattle.laws_axes.proofs.Table.{line_seen, line_straight}
use Rattle.laws_axes.specs.Reached.{none, opcode_at}
use Rattle.laws_axes.proofs.Steps.{world_again}
use Rattle.int.proofs.Tests.{either}

-- ---- the opcode that is read
unfoldable pub Named : ℕ → Result Operands Refusal → Type 0
Named op (Ok line) = line.opcode ≡ op
Named op (Err why) = Unit {0}

nothing_read : (op : ℕ) (why : Refusal) → Named op (Err why)
unfolding Named
nothing_read op why = tt

its_own : (op first end : ℕ) → Named op (Ok (operands op first end))
unfolding Named
its_own op first end = refl

read_named : (sheet : List ℤ) (counter at op count : ℕ) → Named op (decode_by sheet counter at op count)
unfolding decode_by
read_named sheet counter at op count =
    either (Named op) (ltb 255 op) (nothing_read op Line)
    (either (Named op) (eqb (need_of op) unknown) (nothing_read op Line)
    (either (Named op) (ltb (length sheet) (at + 2)) (nothing_read op Line)
    (either (Named op) (ltb (length sheet - (at + 2)) count) (nothing_read op Line)
    (either (Named op) (ltb (operands_of (row_of op).takes counter) count) (nothing_read op Surplus) (its_own op (at + 2) (at + 2 + count))))))

pub all_named : (sheet : List ℤ) (counter at : ℕ) → Named (opcode_at sheet at) (decode_of sheet counter at)
unfolding decode_of
all_named sheet counter at =
    either (Named (opcode_at sheet at)) (ltb at (length sheet))
    (read_named sheet counter at (opcode_at sheet at) (index_of (get_or sheet (at + 1) (pos 0))))
    (nothing_read (opcode_at sheet at) Line)

-- ---- what is seen after a line
abbrev pub went_seen : Axis → Went → Went
went_seen a g = record { call = g.call; place = g.place; world = world_seen a g.world }

on_seen : (a : Axis) (f : Fixed) (sheet : List ℤ) (at : ℕ) (w : World) → Straight a w.state → (op : ℕ) → mixes a op ≡ false → (d : Result Operands Refusal) → Named op d
    → went_seen a (on_decoded (fixed_seen a f) sheet at (world_seen a w) d) ≡ went_seen a (on_decoded f sheet at w d)
unfolding on_decoded Named
on_seen a f sheet at w e op m (Ok line) n =
    ap (landed_in at line.end) (line_seen a f line.opcode (take (line.end - line.first) (drop line.first sheet)) w e (ap (mixes a) n ∙ m))
on_seen a f sheet at w e op m (Err why) n = ap (λ (v : World). record { call = Err why; place = at; world = v }) (world_again a w).seen

pub step_seen : (a : Axis) (f : Fixed) (sheet : List ℤ) (at : ℕ) (w : World) → Straight a w.state → mixes a (opcode_at sheet at) ≡ false
    → went_seen a (step_of (fixed_seen a f) sheet at (world_seen a w)) ≡ went_seen a (step_of f sheet at w)
unfolding step_of
step_seen a f sheet at w e m =
    on_seen a f sheet at w e (opcode_at sheet at) m (decode_of sheet w.state.loop_counter at) (all_named sheet w.state.loop_counter at)

on_straight : (a : Axis) (f : Fixed) (sheet : List ℤ) (at : ℕ) (w : World) → Straight a w.state → (op : ℕ) → mixes a op ≡ false → (d : Result Operands Refusal) → Named op d
    → Straight a (on_decoded f sheet at w d).world.state
unfolding on_decoded Named
on_straight a f sheet at w e op m (Ok line) n = line_straight a f line.opcode (take (line.end - line.first) (drop line.first sheet)) w e (ap (mixes a) n ∙ m)
on_straight a f sheet at w e op m (Err why) n = e

pub step_straight : (a : Axis) (f : Fixed) (sheet : List ℤ) (at : ℕ) (w : World) → Straight a w.state → mixes a (opcode_at sheet at) ≡ false
    → Straight a (step_of f sheet at w).world.state
unfolding step_of
step_straight a f sheet at w e m =
    on_straight a f sheet at w e (opcode_at sheet at) m (decode_of sheet w.state.loop_counter at) (all_named sheet w.state.loop_counter at)

-- the same line over two worlds that are seen alike
pub steps_alike : (a : Axis) (f g : Fixed) (sheet : List ℤ) (at : ℕ) (w v : World) → fixed_seen a f ≡ fixed_seen a g → world_seen a w ≡ world_seen a v
    → Straight a w.state → mixes a (opcode_at sheet at) ≡ false
    → went_seen a (step_of f sheet at w) ≡ went_seen a (step_of g sheet at v)
steps_alike a f g sheet at w v ef ew e m =
    sym (step_seen a f sheet at w e m)
    ∙ ap₂ (λ (x : Fixed) (y : World). went_seen a (step_of x sheet at y)) ef ew
    ∙ step_seen a g sheet at v (sym (ap (λ (y : World). y.state.vectors) ew) ∙ e) m

-- what a run reaches where it has a line to do: none of a kind is reached, so the line is none of it, and nor are those behind it
pub free_here : (P : ℕ → Bool) (t : Bool) (op : ℕ) (ops : List ℕ) → t ≡ true → none P (cond t (op ∷ ops) []) ≡ true → not (P op) && none P ops ≡ true
free_here P true op ops e free = free
free_here P false op ops e free = cc e
