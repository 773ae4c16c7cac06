-- One outcome: any pair of outcomes that a contract allows for one input is equal. Every contract of a public call says that the outcome, with the lists
-- that were lent, equals a definition applied to the input, so that both outcomes equal one thing, and so does each part of them: `one_outcome` and
-- `one_part` are that for every call. Below is what they say of each call that users make, `NAME-has-one-outcome` for the call NAME: two outcomes, r₁ with
-- the lists that it left and r₂ with those that it left, both as the contract allows for one input, are equal part by part. `tests/contracts` holds each
-- premise to the contract's own text. Assumes nothing.
use Rattle.std.specs.Prelude.{⊤, Result}
use Rattle.answer.specs.declared.Refusal.{Refusal}
use Rattle.moves.specs.declared.Displacement.{Displacement}
use Rattle.projection.specs.declared.Derived.{Derived}
use Rattle.record_layout.specs.declared.Layout.{Layout}
use Rattle.record_read.specs.declared.Damage.{Damage}
use Rattle.round.specs.declared.Tracked.{Tracked}
use Prim.Native.Nat.{ℕ}
use mathlib.Core.Bool.{Bool}
use mathlib.Core.List.{List, ◌++◌}
use mathlib.Core.Path.{◌∙◌, ◌≡◌, ap, sym}
use lib.Ieee.{Float}
use lib.IntN.{ℤ}
use lib.ListN.{drop, length}
use Rattle.flags.specs.declared.Axis.{Axis}
use Rattle.flags.specs.declared.CoordAxis.{CoordAxis}
use Rattle.round.specs.Round.{rounded_of}
use Rattle.round.specs.declared.RoundState.{RoundState}
use Rattle.graphics.specs.declared.GraphicsState.{GraphicsState}
use Rattle.graphics.specs.declared.Vector.{Vector}
use Rattle.graphics.specs.declared.ZonePointer.{ZonePointer}
use Rattle.projection.specs.Projection.{deduced_of, dual_project_of, measured_of, project_of}
use Rattle.direct_zone.specs.Direct.{try_fetch_of, try_flip_of, try_set_on_curve_of, try_touch_of, try_touched_of, try_unscaled_of, try_untouch_of}
use Rattle.zone.specs.Zone.{Marked, marked}
use Rattle.moves.specs.Apply.{BothMoved, BothShifted, both_moved, both_shifted}
use Rattle.direct_moves.specs.Direct.{try_displacement_of, try_move_original_of, try_move_point_of, try_move_zp2_of}
use Rattle.iup.specs.Iup.{Swept, tried_of, swept}
use Rattle.state_words.specs.Words.{written}
use Rattle.line.specs.World.{fixed, world}
use Rattle.run_lines.specs.Onward.{Ran, ran}
use Rattle.run_lines.specs.declared.Outcome.{Outcome}
use Rattle.replay.specs.Run.{run_of}
use Rattle.exports.specs.Call.{call_of}
use Rattle.feed_calls.specs.Feed.{Carried, Told, carried, feed_call_of, feed_end_call_of, told}
use Rattle.feed_calls.specs.Left.{Left, left}
use Rattle.outline_calls.specs.Slots.{Left as DrawnLeft, Started, begin_call_of, left as drawnLeft, next_call_of, started}
use Rattle.outline_print.specs.Print.{outline_of}
use Rattle.outline_steps.specs.Outline.{glyph}
use Rattle.outline_steps.specs.Pen.{begin_of, next_of}
use Rattle.outline_steps.specs.declared.Asked.{Asked}
use Rattle.outline_steps.specs.declared.Pen.{Pen}
use Rattle.rules.specs.Rules.{by_number}
use Rattle.rules.specs.declared.Rules.TheVariants.{FreeType}
use Rattle.rules.specs.declared.Rules.{Rules}
use Rattle.record_read.specs.Format.{held}
use Rattle.record_read.specs.Read.{open_of}
use Rattle.record_layout.specs.Order.{most_bytes}
use Rattle.record_write.specs.Written.{Wrote, write_of, wrote}
use Rattle.record_run.specs.After.{Shelved, shelved}
use Rattle.record_run.specs.declared.Replayed.{Replayed}
use Rattle.record_replay.specs.Shelf.{shelf_of, shelf_within}
use Rattle.record_print.specs.Print.{Front, print_of}

-- ---- the law
pub one_outcome : {A : Type 0} {x y said : A} → x ≡ said → y ≡ said → x ≡ y
one_outcome p q = p ∙ sym q

-- and of each part: the answer, the state, a list
pub one_part : {A B : Type 0} (part : A → B) {x y said : A} → x ≡ said → y ≡ said → part x ≡ part y
one_part part p q = ap part (one_outcome p q)

-- ---- a run, and the record of what a run is given
-- what `run` hands back beside the lists
abbrev outcome_of : Ran → Outcome
outcome_of x = record { answer = x.answer; place = x.place; lines = x.lines; state = x.world.state }

module _ (rules : Rules) (start budget : ℕ) (sheet controls gux guy gox goy gx gy : List ℤ) (gflags contours : List ℕ) (tox toy tx ty : List ℤ) (tflags : List ℕ) where
  pub run_has_one_outcome : (s : GraphicsState)
      (r₁ : Outcome) (gx₁ gy₁ : List ℤ) (gflags₁ : List ℕ) (tox₁ toy₁ tx₁ ty₁ : List ℤ) (tflags₁ : List ℕ)
      (r₂ : Outcome) (gx₂ gy₂ : List ℤ) (gflags₂ : List ℕ) (tox₂ toy₂ tx₂ ty₂ : List ℤ) (tflags₂ : List ℕ)
      → ran r₁ gx₁ gy₁ gflags₁ tox₁ toy₁ tx₁ ty₁ tflags₁
      ≡ run_of (fixed rules controls gux guy gox goy contours) sheet budget start (world s gx gy gflags tox toy tx ty tflags)
      → ran r₂ gx₂ gy₂ gflags₂ tox₂ toy₂ tx₂ ty₂ tflags₂
      ≡ run_of (fixed rules controls gux guy gox goy contours) sheet budget start (world s gx gy gflags tox toy tx ty tflags)
      → (r₁ ≡ r₂)
      × (gx₁ ≡ gx₂)
      × (gy₁ ≡ gy₂)
      × (gflags₁ ≡ gflags₂)
      × (tox₁ ≡ tox₂)
      × (toy₁ ≡ toy₂)
      × (tx₁ ≡ tx₂)
      × (ty₁ ≡ ty₂)
      × (tflags₁ ≡ tflags₂)
  run_has_one_outcome s r₁ gx₁ gy₁ gflags₁ tox₁ toy₁ tx₁ ty₁ tflags₁ r₂ gx₂ gy₂ gflags₂ tox₂ toy₂ tx₂ ty₂ tflags₂ p q = (
    one_part outcome_of p q,
    one_part (λ (x : Ran). x.world.gx) p q,
    one_part (λ (x : Ran). x.world.gy) p q,
    one_part (λ (x : Ran). x.world.gflags) p q,
    one_part (λ (x : Ran). x.world.tox) p q,
    one_part (λ (x : Ran). x.world.toy) p q,
    one_part (λ (x : Ran). x.world.tx) p q,
    one_part (λ (x : Ran). x.world.ty) p q,
    one_part (λ (x : Ran). x.world.tflags) p q,
  )

  pub taleviqa_run_has_one_outcome : (rules : ℕ) (state answer : List ℕ)
      (r₁ : ℕ) (state₁ answer₁ : List ℕ) (gx₁ gy₁ : List ℤ) (gflags₁ : List ℕ) (tox₁ toy₁ tx₁ ty₁ : List ℤ) (tflags₁ : List ℕ)
      (r₂ : ℕ) (state₂ answer₂ : List ℕ) (gx₂ gy₂ : List ℤ) (gflags₂ : List ℕ) (tox₂ toy₂ tx₂ ty₂ : List ℤ) (tflags₂ : List ℕ)
      → left r₁ state₁ answer₁ gx₁ gy₁ gflags₁ tox₁ toy₁ tx₁ ty₁ tflags₁
      ≡ call_of (λ (by : Rules). fixed by controls gux guy gox goy contours) sheet budget start state answer gx gy gflags tox toy tx ty tflags (by_number rules)
      → left r₂ state₂ answer₂ gx₂ gy₂ gflags₂ tox₂ toy₂ tx₂ ty₂ tflags₂
      ≡ call_of (λ (by : Rules). fixed by controls gux guy gox goy contours) sheet budget start state answer gx gy gflags tox toy tx ty tflags (by_number rules)
      → (r₁ ≡ r₂)
      × (state₁ ≡ state₂)
      × (answer₁ ≡ answer₂)
      × (gx₁ ≡ gx₂)
      × (gy₁ ≡ gy₂)
      × (gflags₁ ≡ gflags₂)
      × (tox₁ ≡ tox₂)
      × (toy₁ ≡ toy₂)
      × (tx₁ ≡ tx₂)
      × (ty₁ ≡ ty₂)
      × (tflags₁ ≡ tflags₂)
  taleviqa_run_has_one_outcome
      rules state answer
      r₁ state₁ answer₁ gx₁ gy₁ gflags₁ tox₁ toy₁ tx₁ ty₁ tflags₁
      r₂ state₂ answer₂ gx₂ gy₂ gflags₂ tox₂ toy₂ tx₂ ty₂ tflags₂
      p q = (
        one_part (λ (x : Left). x.number) p q,
        one_part (λ (x : Left). x.state) p q,
        one_part (λ (x : Left). x.answer) p q,
        one_part (λ (x : Left). x.gx) p q,
        one_part (λ (x : Left). x.gy) p q,
        one_part (λ (x : Left). x.gflags) p q,
        one_part (λ (x : Left). x.tox) p q,
        one_part (λ (x : Left). x.toy) p q,
        one_part (λ (x : Left). x.tx) p q,
        one_part (λ (x : Left). x.ty) p q,
        one_part (λ (x : Left). x.tflags) p q,
      )

  pub taleviqa_feed_has_one_outcome : (rules : ℕ) (piece carry : List ℤ) (state numbers : List ℕ)
      (r₁ : ℕ) (carry₁ : List ℤ) (state₁ numbers₁ : List ℕ) (gx₁ gy₁ : List ℤ) (gflags₁ : List ℕ) (tox₁ toy₁ tx₁ ty₁ : List ℤ) (tflags₁ : List ℕ)
      (r₂ : ℕ) (carry₂ : List ℤ) (state₂ numbers₂ : List ℕ) (gx₂ gy₂ : List ℤ) (gflags₂ : List ℕ) (tox₂ toy₂ tx₂ ty₂ : List ℤ) (tflags₂ : List ℕ)
      → carried carry₁ (left r₁ state₁ numbers₁ gx₁ gy₁ gflags₁ tox₁ toy₁ tx₁ ty₁ tflags₁)
      ≡ feed_call_of (λ (by : Rules). fixed by controls gux guy gox goy contours) piece state numbers carry gx gy gflags tox toy tx ty tflags (by_number rules)
      → carried carry₂ (left r₂ state₂ numbers₂ gx₂ gy₂ gflags₂ tox₂ toy₂ tx₂ ty₂ tflags₂)
      ≡ feed_call_of (λ (by : Rules). fixed by controls gux guy gox goy contours) piece state numbers carry gx gy gflags tox toy tx ty tflags (by_number rules)
      → (r₁ ≡ r₂)
      × (carry₁ ≡ carry₂)
      × (state₁ ≡ state₂)
      × (numbers₁ ≡ numbers₂)
      × (gx₁ ≡ gx₂)
      × (gy₁ ≡ gy₂)
      × (gflags₁ ≡ gflags₂)
      × (tox₁ ≡ tox₂)
      × (toy₁ ≡ toy₂)
      × (tx₁ ≡ tx₂)
      × (ty₁ ≡ ty₂)
      × (tflags₁ ≡ tflags₂)
  taleviqa_feed_has_one_outcome
      rules piece carry state numbers
      r₁ carry₁ state₁ numbers₁ gx₁ gy₁ gflags₁ tox₁ toy₁ tx₁ ty₁ tflags₁
      r₂ carry₂ state₂ numbers₂ gx₂ gy₂ gflags₂ tox₂ toy₂ tx₂ ty₂ tflags₂
      p q = (
        one_part (λ (x : Carried). x.call.number) p q,
        one_part (λ (x : Carried). x.carry) p q,
        one_part (λ (x : Carried). x.call.state) p q,
        one_part (λ (x : Carried). x.call.answer) p q,
        one_part (λ (x : Carried). x.call.gx) p q,
        one_part (λ (x : Carried). x.call.gy) p q,
        one_part (λ (x : Carried). x.call.gflags) p q,
        one_part (λ (x : Carried). x.call.tox) p q,
        one_part (λ (x : Carried). x.call.toy) p q,
        one_part (λ (x : Carried). x.call.tx) p q,
        one_part (λ (x : Carried). x.call.ty) p q,
        one_part (λ (x : Carried). x.call.tflags) p q,
      )

  pub taleviqa_feed_end_has_one_outcome : (carry : List ℤ) (state numbers : List ℕ) (r₁ : ℕ) (numbers₁ : List ℕ) (r₂ : ℕ) (numbers₂ : List ℕ)
      → ((by : Rules) → told r₁ numbers₁ ≡ feed_end_call_of (fixed by controls gux guy gox goy contours) state numbers carry (λ (s : GraphicsState). world s gx gy gflags tox toy tx ty tflags))
      → ((by : Rules) → told r₂ numbers₂ ≡ feed_end_call_of (fixed by controls gux guy gox goy contours) state numbers carry (λ (s : GraphicsState). world s gx gy gflags tox toy tx ty tflags))
      → (r₁ ≡ r₂) × (numbers₁ ≡ numbers₂)
  taleviqa_feed_end_has_one_outcome carry state numbers r₁ numbers₁ r₂ numbers₂ p q =
      (one_part (λ (x : Told). x.number) (p FreeType) (q FreeType), one_part (λ (x : Told). x.feed) (p FreeType) (q FreeType))

  pub write_has_one_outcome : (most : ℕ) (s : GraphicsState) (out : List ℕ) (r₁ : ℕ) (out₁ : List ℕ) (r₂ : ℕ) (out₂ : List ℕ)
      → wrote r₁ out₁ ≡ write_of most (held (fixed FreeType controls gux guy gox goy contours) sheet (world s gx gy gflags tox toy tx ty tflags)) out
      → wrote r₂ out₂ ≡ write_of most (held (fixed FreeType controls gux guy gox goy contours) sheet (world s gx gy gflags tox toy tx ty tflags)) out
      → (r₁ ≡ r₂) × (out₁ ≡ out₂)
  write_has_one_outcome most s out r₁ out₁ r₂ out₂ p q = (one_part (λ (x : Wrote). x.size) p q, one_part (λ (x : Wrote). x.bytes) p q)

-- ---- bytes and words
pub open_has_one_outcome : (bytes : List ℕ) (r₁ r₂ : Result Layout Damage) → r₁ ≡ open_of bytes → r₂ ≡ open_of bytes → r₁ ≡ r₂
open_has_one_outcome bytes r₁ r₂ p q = one_outcome p q

pub replay_within_has_one_outcome : (rules : Rules) (most : ℕ) (bytes out : List ℕ) (r₁ : Replayed) (out₁ : List ℕ) (r₂ : Replayed) (out₂ : List ℕ)
    → shelved r₁ out₁ ≡ shelf_within rules most bytes out → shelved r₂ out₂ ≡ shelf_within rules most bytes out → (r₁ ≡ r₂) × (out₁ ≡ out₂)
replay_within_has_one_outcome rules most bytes out r₁ out₁ r₂ out₂ p q = (one_part (λ (x : Shelved). x.said) p q, one_part (λ (x : Shelved). x.out) p q)

pub replay_has_one_outcome : (rules : Rules) (bytes out : List ℕ) (r₁ : Replayed) (out₁ : List ℕ) (r₂ : Replayed) (out₂ : List ℕ)
    → shelved r₁ out₁ ≡ shelf_of rules bytes out → shelved r₂ out₂ ≡ shelf_of rules bytes out → (r₁ ≡ r₂) × (out₁ ≡ out₂)
replay_has_one_outcome rules bytes out r₁ out₁ r₂ out₂ p q = replay_within_has_one_outcome rules most_bytes bytes out r₁ out₁ r₂ out₂ p q

pub print_has_one_outcome : (rules : Rules) (bytes text : List ℕ) (r₁ : ℕ) (text₁ : List ℕ) (r₂ : ℕ) (text₂ : List ℕ)
    → r₁ ≡ length (print_of rules bytes) → Front r₁ text₁ → text₁ ≡ print_of rules bytes ++ drop r₁ text
    → r₂ ≡ length (print_of rules bytes) → Front r₂ text₂ → text₂ ≡ print_of rules bytes ++ drop r₂ text
    → (r₁ ≡ r₂) × (text₁ ≡ text₂)
print_has_one_outcome rules bytes text r₁ text₁ r₂ text₂ n₁ front₁ p n₂ front₂ q =
    let same : r₁ ≡ r₂ = one_outcome n₁ n₂ in (same, p ∙ ap (λ (n : ℕ). print_of rules bytes ++ drop n text) same ∙ sym q)

pub write_state_has_one_outcome : (s : GraphicsState) (words words₁ words₂ : List ℕ) → words₁ ≡ written s words → words₂ ≡ written s words → words₁ ≡ words₂
write_state_has_one_outcome s words words₁ words₂ p q = one_outcome p q

-- ---- the direct calls that change no list
module _ (xs ys : List ℤ) (at : ℕ) (r₁ r₂ : Result Vector Refusal) where
  pub try_fetch_has_one_outcome : r₁ ≡ try_fetch_of xs ys at → r₂ ≡ try_fetch_of xs ys at → r₁ ≡ r₂
  try_fetch_has_one_outcome p q = one_outcome p q

  pub try_unscaled_has_one_outcome : r₁ ≡ try_unscaled_of xs ys at → r₂ ≡ try_unscaled_of xs ys at → r₁ ≡ r₂
  try_unscaled_has_one_outcome p q = one_outcome p q

pub try_is_touched_has_one_outcome : (flags : List ℕ) (at : ℕ) (axis : CoordAxis) (r₁ r₂ : Result Bool Refusal)
    → r₁ ≡ try_touched_of flags at axis → r₂ ≡ try_touched_of flags at axis → r₁ ≡ r₂
try_is_touched_has_one_outcome flags at axis r₁ r₂ p q = one_outcome p q

pub try_round_has_one_outcome : (self : RoundState) (d : ℤ) (r₁ r₂ : Result Tracked Refusal) → r₁ ≡ rounded_of self d → r₂ ≡ rounded_of self d → r₁ ≡ r₂
try_round_has_one_outcome self d r₁ r₂ p q = one_outcome p q

pub try_derive_has_one_outcome : (s : GraphicsState) (r₁ r₂ : Result Derived Refusal) → r₁ ≡ deduced_of s → r₂ ≡ deduced_of s → r₁ ≡ r₂
try_derive_has_one_outcome s r₁ r₂ p q = one_outcome p q

module _ (s : GraphicsState) (a b : Vector) (r₁ r₂ : Result ℤ Refusal) where
  pub try_project_has_one_outcome : r₁ ≡ measured_of s (project_of s.vectors a b) → r₂ ≡ measured_of s (project_of s.vectors a b) → r₁ ≡ r₂
  try_project_has_one_outcome p q = one_outcome p q

  pub try_dual_project_has_one_outcome : r₁ ≡ measured_of s (dual_project_of s.vectors a b) → r₂ ≡ measured_of s (dual_project_of s.vectors a b) → r₁ ≡ r₂
  try_dual_project_has_one_outcome p q = one_outcome p q

  pub try_dual_project_unscaled_has_one_outcome :
      r₁ ≡ measured_of s (dual_project_of s.vectors a b) → r₂ ≡ measured_of s (dual_project_of s.vectors a b) → r₁ ≡ r₂
  try_dual_project_unscaled_has_one_outcome p q = one_outcome p q

pub try_point_displacement_has_one_outcome : (gox goy gx gy tox toy tx ty : List ℤ) (s : GraphicsState) (opcode : ℕ) (r₁ r₂ : Result Displacement Refusal)
    → r₁ ≡ try_displacement_of gox goy gx gy tox toy tx ty s opcode → r₂ ≡ try_displacement_of gox goy gx gy tox toy tx ty s opcode → r₁ ≡ r₂
try_point_displacement_has_one_outcome gox goy gx gy tox toy tx ty s opcode r₁ r₂ p q = one_outcome p q

-- ---- the direct calls that change flags
both_marked : {m : Marked} (r₁ : Result ⊤ Refusal) (flags₁ : List ℕ) (r₂ : Result ⊤ Refusal) (flags₂ : List ℕ)
    → marked r₁ flags₁ ≡ m → marked r₂ flags₂ ≡ m → (r₁ ≡ r₂) × (flags₁ ≡ flags₂)
both_marked r₁ flags₁ r₂ flags₂ p q = (one_part (λ (x : Marked). x.call) p q, one_part (λ (x : Marked). x.flags) p q)

module _ (flags : List ℕ) (r₁ : Result ⊤ Refusal) (flags₁ : List ℕ) (r₂ : Result ⊤ Refusal) (flags₂ : List ℕ) where
  pub try_touch_has_one_outcome : (at : ℕ) (axis : CoordAxis)
      → marked r₁ flags₁ ≡ try_touch_of flags at axis → marked r₂ flags₂ ≡ try_touch_of flags at axis → (r₁ ≡ r₂) × (flags₁ ≡ flags₂)
  try_touch_has_one_outcome at axis p q = both_marked r₁ flags₁ r₂ flags₂ p q

  pub try_untouch_has_one_outcome : (at : ℕ) (axis : CoordAxis)
      → marked r₁ flags₁ ≡ try_untouch_of flags at axis → marked r₂ flags₂ ≡ try_untouch_of flags at axis → (r₁ ≡ r₂) × (flags₁ ≡ flags₂)
  try_untouch_has_one_outcome at axis p q = both_marked r₁ flags₁ r₂ flags₂ p q

  pub try_flip_on_curve_has_one_outcome : (at : ℕ)
      → marked r₁ flags₁ ≡ try_flip_of flags at → marked r₂ flags₂ ≡ try_flip_of flags at → (r₁ ≡ r₂) × (flags₁ ≡ flags₂)
  try_flip_on_curve_has_one_outcome at p q = both_marked r₁ flags₁ r₂ flags₂ p q

  pub try_set_on_curve_has_one_outcome : (start end : ℕ) (on : Bool)
      → marked r₁ flags₁ ≡ try_set_on_curve_of flags start end on → marked r₂ flags₂ ≡ try_set_on_curve_of flags start end on → (r₁ ≡ r₂) × (flags₁ ≡ flags₂)
  try_set_on_curve_has_one_outcome start end on p q = both_marked r₁ flags₁ r₂ flags₂ p q

-- ---- the direct calls that change coordinates
pub try_iup_has_one_outcome : (unscaled original current : List ℤ) (flags contours : List ℕ) (axis : Axis) (r₁ : Result ⊤ Refusal) (current₁ : List ℤ) (r₂ : Result ⊤ Refusal) (current₂ : List ℤ)
    → swept r₁ current₁ ≡ tried_of axis flags contours unscaled original current
    → swept r₂ current₂ ≡ tried_of axis flags contours unscaled original current
    → (r₁ ≡ r₂) × (current₁ ≡ current₂)
try_iup_has_one_outcome unscaled original current flags contours axis r₁ current₁ r₂ current₂ p q =
    (one_part (λ (x : Swept). x.answer) p q, one_part (λ (x : Swept). x.current) p q)

pub try_move_original_has_one_outcome : (s : GraphicsState) (zone : ZonePointer) (at : ℕ) (distance : ℤ) (gox goy tox toy : List ℤ)
    (r₁ : Result ⊤ Refusal) (gox₁ goy₁ tox₁ toy₁ : List ℤ) (r₂ : Result ⊤ Refusal) (gox₂ goy₂ tox₂ toy₂ : List ℤ)
    → both_shifted r₁ gox₁ goy₁ tox₁ toy₁ ≡ try_move_original_of gox goy tox toy s zone at distance
    → both_shifted r₂ gox₂ goy₂ tox₂ toy₂ ≡ try_move_original_of gox goy tox toy s zone at distance
    → (r₁ ≡ r₂) × (gox₁ ≡ gox₂) × (goy₁ ≡ goy₂) × (tox₁ ≡ tox₂) × (toy₁ ≡ toy₂)
try_move_original_has_one_outcome s zone at distance gox goy tox toy r₁ gox₁ goy₁ tox₁ toy₁ r₂ gox₂ goy₂ tox₂ toy₂ p q = (
  one_part (λ (x : BothShifted). x.call) p q,
  one_part (λ (x : BothShifted). x.gx) p q,
  one_part (λ (x : BothShifted). x.gy) p q,
  one_part (λ (x : BothShifted). x.tx) p q,
  one_part (λ (x : BothShifted). x.ty) p q,
)

module _ (s : GraphicsState) (gx gy : List ℤ) (gflags : List ℕ) (tx ty : List ℤ) (tflags : List ℕ)
    (r₁ : Result ⊤ Refusal) (gx₁ gy₁ : List ℤ) (gflags₁ : List ℕ) (tx₁ ty₁ : List ℤ) (tflags₁ : List ℕ)
    (r₂ : Result ⊤ Refusal) (gx₂ gy₂ : List ℤ) (gflags₂ : List ℕ) (tx₂ ty₂ : List ℤ) (tflags₂ : List ℕ)
  where
    both_moved_lem : {m : BothMoved} → both_moved r₁ gx₁ gy₁ gflags₁ tx₁ ty₁ tflags₁ ≡ m → both_moved r₂ gx₂ gy₂ gflags₂ tx₂ ty₂ tflags₂ ≡ m
        → (r₁ ≡ r₂) × (gx₁ ≡ gx₂) × (gy₁ ≡ gy₂) × (gflags₁ ≡ gflags₂) × (tx₁ ≡ tx₂) × (ty₁ ≡ ty₂) × (tflags₁ ≡ tflags₂)
    both_moved_lem p q = (
      one_part (λ (x : BothMoved). x.call) p q,
      one_part (λ (x : BothMoved). x.gx) p q,
      one_part (λ (x : BothMoved). x.gy) p q,
      one_part (λ (x : BothMoved). x.gflags) p q,
      one_part (λ (x : BothMoved). x.tx) p q,
      one_part (λ (x : BothMoved). x.ty) p q,
      one_part (λ (x : BothMoved). x.tflags) p q,
    )

    pub try_move_point_has_one_outcome : (zone : ZonePointer) (at : ℕ) (distance : ℤ)
        → both_moved r₁ gx₁ gy₁ gflags₁ tx₁ ty₁ tflags₁ ≡ try_move_point_of gx gy gflags tx ty tflags s zone at distance
        → both_moved r₂ gx₂ gy₂ gflags₂ tx₂ ty₂ tflags₂ ≡ try_move_point_of gx gy gflags tx ty tflags s zone at distance
        → (r₁ ≡ r₂) × (gx₁ ≡ gx₂) × (gy₁ ≡ gy₂) × (gflags₁ ≡ gflags₂) × (tx₁ ≡ tx₂) × (ty₁ ≡ ty₂) × (tflags₁ ≡ tflags₂)
    try_move_point_has_one_outcome zone at distance p q = both_moved_lem p q

    pub try_move_zp2_point_has_one_outcome : (at : ℕ) (dx dy : ℤ) (touches : Bool)
        → both_moved r₁ gx₁ gy₁ gflags₁ tx₁ ty₁ tflags₁ ≡ try_move_zp2_of gx gy gflags tx ty tflags s at dx dy touches
        → both_moved r₂ gx₂ gy₂ gflags₂ tx₂ ty₂ tflags₂ ≡ try_move_zp2_of gx gy gflags tx ty tflags s at dx dy touches
        → (r₁ ≡ r₂) × (gx₁ ≡ gx₂) × (gy₁ ≡ gy₂) × (gflags₁ ≡ gflags₂) × (tx₁ ≡ tx₂) × (ty₁ ≡ ty₂) × (tflags₁ ≡ tflags₂)
    try_move_zp2_point_has_one_outcome at dx dy touches p q = both_moved_lem p q

-- ---- outlines, step by step
module _ (xs ys : List ℤ) (flags contours : List ℕ) where
  pub begin_has_one_outcome : (r₁ r₂ : Result Pen Refusal) → r₁ ≡ begin_of (glyph xs ys flags contours) → r₂ ≡ begin_of (glyph xs ys flags contours) → r₁ ≡ r₂
  begin_has_one_outcome r₁ r₂ p q = one_outcome p q

  pub next_has_one_outcome : (pen : Pen) (r₁ r₂ : Asked) → r₁ ≡ next_of (glyph xs ys flags contours) pen → r₂ ≡ next_of (glyph xs ys flags contours) pen → r₁ ≡ r₂
  next_has_one_outcome pen r₁ r₂ p q = one_outcome p q

module _ (gx gy : List ℤ) (gflags contours : List ℕ) (pen : List ℕ) where
  pub taleviqa_outline_begin_has_one_outcome : (r₁ : ℕ) (pen₁ : List ℕ) (r₂ : ℕ) (pen₂ : List ℕ)
      → started r₁ pen₁ ≡ begin_call_of (glyph gx gy gflags contours) pen
      → started r₂ pen₂ ≡ begin_call_of (glyph gx gy gflags contours) pen
      → (r₁ ≡ r₂) × (pen₁ ≡ pen₂)
  taleviqa_outline_begin_has_one_outcome r₁ pen₁ r₂ pen₂ p q = (one_part (λ (x : Started). x.number) p q, one_part (λ (x : Started). x.words) p q)

  pub taleviqa_outline_next_has_one_outcome : (edges : List Float) (step : List ℕ) (numbers : List Float)
      (r₁ : ℕ) (pen₁ : List ℕ) (edges₁ : List Float) (step₁ : List ℕ) (numbers₁ : List Float)
      (r₂ : ℕ) (pen₂ : List ℕ) (edges₂ : List Float) (step₂ : List ℕ) (numbers₂ : List Float)
      → drawnLeft r₁ pen₁ edges₁ step₁ numbers₁ ≡ next_call_of (glyph gx gy gflags contours) pen edges step numbers
      → drawnLeft r₂ pen₂ edges₂ step₂ numbers₂ ≡ next_call_of (glyph gx gy gflags contours) pen edges step numbers
      → (r₁ ≡ r₂) × (pen₁ ≡ pen₂) × (edges₁ ≡ edges₂) × (step₁ ≡ step₂) × (numbers₁ ≡ numbers₂)
  taleviqa_outline_next_has_one_outcome edges step numbers r₁ pen₁ edges₁ step₁ numbers₁ r₂ pen₂ edges₂ step₂ numbers₂ p q = (
    one_part (λ (x : DrawnLeft). x.number) p q,
    one_part (λ (x : DrawnLeft). x.words) p q,
    one_part (λ (x : DrawnLeft). x.edges) p q,
    one_part (λ (x : DrawnLeft). x.step) p q,
    one_part (λ (x : DrawnLeft). x.numbers) p q,
  )

pub print_outline_has_one_outcome : (rules : Rules) (bytes text : List ℕ) (r₁ : ℕ) (text₁ : List ℕ) (r₂ : ℕ) (text₂ : List ℕ)
    → r₁ ≡ length (outline_of rules bytes) → Front r₁ text₁ → text₁ ≡ outline_of rules bytes ++ drop r₁ text
    → r₂ ≡ length (outline_of rules bytes) → Front r₂ text₂ → text₂ ≡ outline_of rules bytes ++ drop r₂ text
    → (r₁ ≡ r₂) × (text₁ ≡ text₂)
print_outline_has_one_outcome rules bytes text r₁ text₁ r₂ text₂ n₁ front₁ p n₂ front₂ q =
    let same : r₁ ≡ r₂ = one_outcome n₁ n₂ in (same, p ∙ ap (λ (n : ℕ). outline_of rules bytes ++ drop n text) same ∙ sym q)
