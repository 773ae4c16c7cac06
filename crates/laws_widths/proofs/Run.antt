-- A run keeps every value in its width: `run_in_width`. A line by the things that it does, a run by induction on the budget. It asks that the sheet's words
-- are words of 32 bits, as its operands become references; of what lines only read it asks nothing, and nothing of the sizes. Assumes nothing.
use Rattle.opcodes.specs.declared.Operands.{Operands}
use Rattle.std.specs.Prelude.{⊤, Result, Ok, Err}
use Rattle.answer.specs.declared.Refusal.{Refusal}
use mathlib.Core.List.{List}
use Prim.Native.Nat.{◌-◌, ◌<◌, ◌^◌, suc, zero, ℕ}
use lib.Dec.{leb, ltb}
use lib.IntN.{ℤ}
use lib.ListN.{length}
use mir.Syntax.{w32}
use mir.Val.{SFits}
use Rattle.graphics.specs.State.{usable_state}
use Rattle.int.proofs.Tests.{either}
use Rattle.laws_lines.proofs.Lines.{line_leaves}
use Rattle.laws_lines.proofs.Sets.{Sets}
use Rattle.run_lines.specs.Onward.{Ran, on_call, replay_of}
use Rattle.opcodes.specs.Decode.{decode_of}
use Rattle.opcodes.specs.Table.{line_of}
use Rattle.record_read.proofs.Widths.{FixedInWidth, InWidth}
use Rattle.replay.specs.Run.{entered, on_entry, run_of}
use Rattle.run_step.specs.Step.{on_decoded, step_of}
use Rattle.words.proofs.Widths.{Numbers, every_drop, every_take}
use Rattle.line.specs.Sizes.{world_fits}
use Rattle.line.specs.World.{Fixed, World}
use Rattle.laws_widths.proofs.Lines.{in_state_fits, isect_in_width, iup_in_width, stays_in_width}
use Rattle.laws_widths.proofs.Index.{index_fits}
use Rattle.laws_widths.proofs.Setters.{along_within, dual_within, measure_within, set_within, vector_within}

-- ---- one line
sets_in_width : (op : ℕ) {operands : List ℤ} → Numbers operands → (w : World) → InWidth w → Sets op operands w InWidth
sets_in_width op {operands} o w k = let s = k.state in record {
  by_setter = in_state_fits w _ (set_within s op o) k;
  by_size = in_state_fits w _ (measure_within s op o) k;
  along_line = λ at v r. in_state_fits w _ (along_within s op v r) k;
  along_dual_line = λ at dual v q r. in_state_fits w _ (dual_within s dual v q r) k;
  from_stack = λ at. in_state_fits w _ (vector_within s op operands) k;
  following = λ at. in_state_fits w _ (vector_within s op operands) k;
}

pub line_in_width : (f : Fixed) → FixedInWidth f → (op : ℕ) {operands : List ℤ} → Numbers operands → {w : World} → InWidth w → InWidth (line_of f op operands w).world
line_in_width f x op {operands} o {w} k =
    line_leaves (SFits w32) (λ (at : ℕ). at < 2 ^ 64) (λ z h. index_fits h) (λ op f w. FixedInWidth f × InWidth w) (λ u w. InWidth w) (λ op f w g. g.1) (λ op f w g. stays_in_width f g.0 w.state)
    (λ op f operands w g o. sets_in_width op o w g.1)
    (λ op h f operands w g o. isect_in_width f op operands w g.1)
    (λ op h f operands w g o. iup_in_width f op operands w g.1)
    op f operands w (x, k) o

-- ---- a step: a line's operands are a part of the sheet
module _ (f : Fixed) (x : FixedInWidth f) {sheet : List ℤ} (o : Numbers sheet) where
  decoded_in_width : (at : ℕ) (w : World) → InWidth w → (d : Result Operands Refusal) → InWidth (on_decoded f sheet at w d).world
  unfolding on_decoded
  decoded_in_width at w k (Ok line) = line_in_width f x line.opcode (every_take (every_drop o line.first) (line.end - line.first)) k
  decoded_in_width at w k (Err why) = k

  pub step_in_width : (at : ℕ) (w : World) → InWidth w → InWidth (step_of f sheet at w).world
  unfolding step_of
  step_in_width at w k = decoded_in_width at w k (decode_of sheet w.state.loop_counter at)

-- ---- a run
call_in_width : (lines place : ℕ) (v : World) (call : Result ⊤ Refusal) (rest : ℕ → World → Ran) → InWidth v → ((p : ℕ) → InWidth (rest p v).world)
    → InWidth (on_call rest lines place v call).world
unfolding on_call
call_in_width lines place v (Ok tt) rest k keeps = keeps place
call_in_width lines place v (Err why) rest k keeps = k

module _ (f : Fixed) (x : FixedInWidth f) {sheet : List ℤ} (o : Numbers sheet) where
  pub replay_in_width : (budget lines at : ℕ) (w : World) → InWidth w → InWidth (replay_of f sheet budget lines at w).world
  unfolding replay_of
  replay_in_width zero lines at w k = either (λ (r : Ran). InWidth r.world) (ltb at (length sheet)) k k
  replay_in_width (suc budget) lines at w k =
      let g = step_of f sheet at w in
      let v = step_in_width f x o at w k in
      either (λ (r : Ran). InWidth r.world) (ltb at (length sheet))
      (call_in_width lines g.place g.world g.call (replay_of f sheet budget (suc lines)) v (λ p. replay_in_width budget (suc lines) p g.world v))
      k

-- the public run, which needs no premise on the sizes: where its entry refuses, the world is the one given
entry_in_width : (f : Fixed) (sheet : List ℤ) (budget start : ℕ) (w : World) → FixedInWidth f → Numbers sheet → InWidth w → (begun : Result ⊤ Refusal)
    → InWidth (on_entry f sheet budget start w begun).world
unfolding on_entry
entry_in_width f sheet budget start w x o k (Ok tt) = replay_in_width f x o budget 0 start w k
entry_in_width f sheet budget start w x o k (Err why) = k

pub run_in_width : (f : Fixed) (sheet : List ℤ) (budget start : ℕ) (w : World) → FixedInWidth f → Numbers sheet → InWidth w → InWidth (run_of f sheet budget start w).world
unfolding run_of
run_in_width f sheet budget start w x o k = entry_in_width f sheet budget start w x o k (entered f sheet start w)
