-- What a line and a run leave as the entry tested it: every list is as long as it was, and a usable state stays usable; and a run that begins within
-- the sheet ends within it. A line by the things that it does, a run by induction on the budget. Assumes nothing.
use Rattle.opcodes.specs.declared.Operands.{Operands}
use Rattle.std.specs.Prelude.{⊤, Result, Ok, Err}
use Rattle.answer.specs.declared.Refusal.{Refusal}
use mathlib.Core.Bool.{Bool, ◌&&◌, true}
use mathlib.Core.List.{List}
use Prim.Native.Nat.{◌-◌, ◌≤◌, suc, zero, ℕ}
use mathlib.Core.Path.{◌∙◌, ◌≡◌, ap, refl, sym}
use lib.ListN.{drop, length, take}
use lib.Dec.{eqb, leb, ltb}
use lib.IntN.{ℤ}
use Rattle.line.specs.World.{Alike, Fixed, World}
use Rattle.run_lines.specs.Onward.{Ran, on_call, replay_of}
use Rattle.replay.specs.Run.{entered, on_entry, run_of}
use Rattle.line.specs.Sizes.{fits, world_fits}
use Rattle.run_step.specs.Step.{on_decoded, place_after, step_of}
use Rattle.opcodes.specs.Decode.{decode_of}
use Rattle.opcodes.specs.Table.{line_of}
use Rattle.laws_lines.proofs.Lines.{line_kept, line_usable}
use Rattle.int.proofs.Tests.{either}
use Rattle.run_lines.proofs.Loop.{same_sizes, still_alike, Sizes, mk_sizes, sizes}
use Rattle.replay.proofs.Entry.{entered_sound}
use Rattle.zone.specs.Sizes.{glyph_fits, pair_fits, placed_fits, twilight_fits}
use Rattle.limits.specs.Limits.{most_contours, most_control_values, most_points, most_words}
use Rattle.run_step.proofs.Steps.{operands_inside}
use Rattle.contour_ends.specs.Ends.{ends_rise}
use Rattle.graphics.specs.State.{usable_state}
use Rattle.laws_run.proofs.Left.{Left}

pub all_left : (w : World) → Left w w
all_left w = record { lengths = refl; usable = λ h. h }

pub left_by_both : {u v w : World} → Left u v → Left v w → Left u w
left_by_both a b = record { lengths = b.lengths ∙ a.lengths; usable = λ h. b.usable (a.usable h) }

-- ---- one line
pub line_keeps : (f : Fixed) (op : ℕ) (operands : List ℤ) (w : World) → Alike f w → Left w (line_of f op operands w).world
line_keeps f op operands w alike =
    let k = line_kept f op operands w alike in
    record { lengths = same_sizes k.gx k.gy k.gflags k.tox k.toy k.tx k.ty k.tflags; usable = line_usable f op operands w }

decoded_keeps : (f : Fixed) (sheet : List ℤ) (at : ℕ) (w : World) → Alike f w → (d : Result Operands Refusal) → Left w (on_decoded f sheet at w d).world
unfolding on_decoded
decoded_keeps f sheet at w alike (Ok line) = line_keeps f line.opcode (take (line.end - line.first) (drop line.first sheet)) w alike
decoded_keeps f sheet at w alike (Err why) = all_left w

pub step_keeps : (f : Fixed) (sheet : List ℤ) (at : ℕ) (w : World) → Alike f w → Left w (step_of f sheet at w).world
unfolding step_of
step_keeps f sheet at w alike = decoded_keeps f sheet at w alike (decode_of sheet w.state.loop_counter at)

-- ---- the place after a line
placed_within : (n at end : ℕ) (call : Result ⊤ Refusal) → at ≤ n → end ≤ n → place_after at end call ≤ n
placed_within n at end (Ok tt) h k = k
placed_within n at end (Err why) h k = h

decoded_place : (f : Fixed) (sheet : List ℤ) (at : ℕ) (w : World) → at ≤ length sheet → (d : Result Operands Refusal)
    → decode_of sheet w.state.loop_counter at ≡ d
    → (on_decoded f sheet at w d).place ≤ length sheet
unfolding on_decoded
decoded_place f sheet at w h (Ok line) told =
    placed_within (length sheet) at line.end (line_of f line.opcode (take (line.end - line.first) (drop line.first sheet)) w).call h
    (operands_inside sheet w.state.loop_counter at told).1
decoded_place f sheet at w h (Err why) told = h

pub step_place : (f : Fixed) (sheet : List ℤ) (at : ℕ) (w : World) → at ≤ length sheet → (step_of f sheet at w).place ≤ length sheet
unfolding step_of
step_place f sheet at w h = decoded_place f sheet at w h (decode_of sheet w.state.loop_counter at) refl

-- ---- a run
call_keeps : (f : Fixed) (lines place : ℕ) (w v : World) (call : Result ⊤ Refusal) (rest : ℕ → World → Ran) → Left w v
    → ((p : ℕ) → Left v (rest p v).world)
    → Left w (on_call rest lines place v call).world
unfolding on_call
call_keeps f lines place w v (Ok tt) rest l keeps = left_by_both l (keeps place)
call_keeps f lines place w v (Err why) rest l keeps = l

pub replay_keeps : (f : Fixed) (sheet : List ℤ) (budget lines at : ℕ) (w : World) → Alike f w → Left w (replay_of f sheet budget lines at w).world
unfolding replay_of
replay_keeps f sheet zero lines at w alike = either (λ (r : Ran). Left w r.world) (ltb at (length sheet)) (all_left w) (all_left w)
replay_keeps f sheet (suc budget) lines at w alike =
    let g = step_of f sheet at w in
    let l = step_keeps f sheet at w alike in
    either (λ (r : Ran). Left w r.world) (ltb at (length sheet))
    (call_keeps f lines g.place w g.world g.call (replay_of f sheet budget (suc lines)) l
    (λ p. replay_keeps f sheet budget (suc lines) p g.world (still_alike f w g.world l.lengths alike)))
    (all_left w)

call_place : (n lines place : ℕ) (w : World) (call : Result ⊤ Refusal) (rest : ℕ → World → Ran) → place ≤ n
    → ((p : ℕ) → p ≤ n → (rest p w).place ≤ n)
    → (on_call rest lines place w call).place ≤ n
unfolding on_call
call_place n lines place w (Ok tt) rest h within = within place h
call_place n lines place w (Err why) rest h within = h

pub replay_place : (f : Fixed) (sheet : List ℤ) (budget lines at : ℕ) (w : World) → at ≤ length sheet
    → (replay_of f sheet budget lines at w).place ≤ length sheet
unfolding replay_of
replay_place f sheet zero lines at w h = either (λ (r : Ran). r.place ≤ length sheet) (ltb at (length sheet)) h h
replay_place f sheet (suc budget) lines at w h =
    let g = step_of f sheet at w in
    either (λ (r : Ran). r.place ≤ length sheet) (ltb at (length sheet))
    (call_place (length sheet) lines g.place g.world g.call (replay_of f sheet budget (suc lines)) (step_place f sheet at w h)
    (λ p k. replay_place f sheet budget (suc lines) p g.world k))
    h

-- ---- the public run, which needs no premise: where its entry refuses, the world is the one given
entry_keeps : (f : Fixed) (sheet : List ℤ) (budget start : ℕ) (w : World) (begun : Result ⊤ Refusal)
    → begun ≡ entered f sheet start w
    → Left w (on_entry f sheet budget start w begun).world
unfolding on_entry
entry_keeps f sheet budget start w (Ok tt) told =
    replay_keeps f sheet budget 0 start w (entered_sound f sheet start w told refl).0
entry_keeps f sheet budget start w (Err why) told = all_left w

pub run_keeps : (f : Fixed) (sheet : List ℤ) (budget start : ℕ) (w : World) → Left w (run_of f sheet budget start w).world
unfolding run_of
run_keeps f sheet budget start w = entry_keeps f sheet budget start w (entered f sheet start w) refl

pub entry_place : (f : Fixed) (sheet : List ℤ) (budget start : ℕ) (w : World) (begun : Result ⊤ Refusal) → start ≤ length sheet
    → (on_entry f sheet budget start w begun).place ≤ length sheet
unfolding on_entry
entry_place f sheet budget start w (Ok tt) h = replay_place f sheet budget 0 start w h
entry_place f sheet budget start w (Err why) h = h

-- ---- the entry, once more
-- whether the sizes pass, by the lengths alone
abbrev fits_at : Fixed → List ℤ → Sizes → Bool
fits_at f sheet z =
    (eqb (length f.gux) z.gx && (eqb (length f.guy) (length f.gux) && leb (length f.gux) most_points)
    && (eqb (length f.gox) z.gx && (eqb (length f.goy) (length f.gox) && leb (length f.gox) most_points)
    && (eqb z.gflags z.gx && (eqb z.gy z.gx && leb z.gx most_points)))
    && leb (length f.contours) most_contours)
    && (eqb z.tox z.tx && (eqb z.toy z.tox && leb z.tox most_points)
    && (eqb z.tflags z.tx && (eqb z.ty z.tx && leb z.tx most_points)))
    && leb (length f.controls) most_control_values
    && leb (length sheet) most_words

fits_by_lengths : (f : Fixed) (sheet : List ℤ) (w : World) → world_fits f sheet w ≡ fits_at f sheet (sizes w)
unfolding fits glyph_fits twilight_fits placed_fits pair_fits
fits_by_lengths f sheet w = refl

pub still_fits : (f : Fixed) (sheet : List ℤ) (w v : World) → Left w v → world_fits f sheet v ≡ world_fits f sheet w
still_fits f sheet w v l = fits_by_lengths f sheet v ∙ ap (fits_at f sheet) l.lengths ∙ sym (fits_by_lengths f sheet w)

pub still_rising : (f : Fixed) (w v : World) → Left w v → ends_rise (length v.gx) f.contours ≡ ends_rise (length w.gx) f.contours
still_rising f w v l = ap (λ (z : Sizes). ends_rise z.gx f.contours) l.lengths
