-- One outcome of a reader's calls, as Outcome.antt has it of the others: `over`, `moved`, `left`, `fed`, and `feed_from` on a plain slice. Assumes nothing.
use Prim.Native.Nat.{ℕ, ◌-◌}
use mathlib.Core.List.{List}
use mathlib.Core.Path.{◌∙◌, ◌≡◌, sym}
use denote.Ref.{Bor}
use lib.IntN.{ℤ}
use lib.ListN.{drop, length}
use Rattle.line.specs.World.{fixed}
use Rattle.rules.specs.Rules.{by_number}
use Rattle.rules.specs.declared.Rules.{Rules}
use Rattle.feed_calls.specs.Feed.{Carried, carried, feed_call_of}
use Rattle.feed_calls.specs.Left.{left as leaves}
use Rattle.feed_reader.specs.declared.Piece.{Piece}
use Rattle.laws_outcome.proofs.Outcome.{one_part}

-- ---- the piece and the place
one_piece : (words : Bor (List ℤ)) (at : ℕ) (r₁ r₂ : Piece) → (r₁.words ≡ words) × (r₁.at ≡ at) → (r₂.words ≡ words) × (r₂.at ≡ at) → r₁ ≡ r₂
one_piece words at r₁ r₂ p q = λ i. record { words = (p.0 ∙ sym q.0) i; at = (p.1 ∙ sym q.1) i }

pub over_has_one_outcome : (words : Bor (List ℤ)) (r₁ r₂ : Piece) → (r₁.words ≡ words) × (r₁.at ≡ 0) → (r₂.words ≡ words) × (r₂.at ≡ 0) → r₁ ≡ r₂
over_has_one_outcome words r₁ r₂ p q = one_piece words 0 r₁ r₂ p q

pub moved_has_one_outcome : (p : Piece) (at : ℕ) (r₁ r₂ : Piece) → (r₁.words ≡ p.words) × (r₁.at ≡ at) → (r₂.words ≡ p.words) × (r₂.at ≡ at) → r₁ ≡ r₂
moved_has_one_outcome p at r₁ r₂ e₁ e₂ = one_piece p.words at r₁ r₂ e₁ e₂

pub left_has_one_outcome : (p : Piece) (r₁ r₂ : ℕ) → r₁ ≡ length p.words.now - p.at → r₂ ≡ length p.words.now - p.at → r₁ ≡ r₂
left_has_one_outcome p r₁ r₂ e₁ e₂ = e₁ ∙ sym e₂

-- ---- what is fed
one_call : (c : Carried)
    (r₁ : ℕ) (carry₁ : List ℤ) (state₁ numbers₁ : List ℕ) (gx₁ gy₁ : List ℤ) (gflags₁ : List ℕ) (tox₁ toy₁ tx₁ ty₁ : List ℤ) (tflags₁ : List ℕ)
    (r₂ : ℕ) (carry₂ : List ℤ) (state₂ numbers₂ : List ℕ) (gx₂ gy₂ : List ℤ) (gflags₂ : List ℕ) (tox₂ toy₂ tx₂ ty₂ : List ℤ) (tflags₂ : List ℕ)
    → carried carry₁ (leaves r₁ state₁ numbers₁ gx₁ gy₁ gflags₁ tox₁ toy₁ tx₁ ty₁ tflags₁) ≡ c
    → carried carry₂ (leaves r₂ state₂ numbers₂ gx₂ gy₂ gflags₂ tox₂ toy₂ tx₂ ty₂ tflags₂) ≡ c
    → (r₁ ≡ r₂)
    × (carry₁ ≡ carry₂)
    × (state₁ ≡ state₂)
    × (numbers₁ ≡ numbers₂)
    × (gx₁ ≡ gx₂)
    × (gy₁ ≡ gy₂)
    × (gflags₁ ≡ gflags₂)
    × (tox₁ ≡ tox₂)
    × (toy₁ ≡ toy₂)
    × (tx₁ ≡ tx₂)
    × (ty₁ ≡ ty₂)
    × (tflags₁ ≡ tflags₂)
one_call c
    r₁ carry₁ state₁ numbers₁ gx₁ gy₁ gflags₁ tox₁ toy₁ tx₁ ty₁ tflags₁
    r₂ carry₂ state₂ numbers₂ gx₂ gy₂ gflags₂ tox₂ toy₂ tx₂ ty₂ tflags₂
    e₁ e₂ = (
      one_part (λ (x : Carried). x.call.number) e₁ e₂,
      one_part (λ (x : Carried). x.carry) e₁ e₂,
      one_part (λ (x : Carried). x.call.state) e₁ e₂,
      one_part (λ (x : Carried). x.call.answer) e₁ e₂,
      one_part (λ (x : Carried). x.call.gx) e₁ e₂,
      one_part (λ (x : Carried). x.call.gy) e₁ e₂,
      one_part (λ (x : Carried). x.call.gflags) e₁ e₂,
      one_part (λ (x : Carried). x.call.tox) e₁ e₂,
      one_part (λ (x : Carried). x.call.toy) e₁ e₂,
      one_part (λ (x : Carried). x.call.tx) e₁ e₂,
      one_part (λ (x : Carried). x.call.ty) e₁ e₂,
      one_part (λ (x : Carried). x.call.tflags) e₁ e₂,
    )

module _ (rules : ℕ) (state numbers : List ℕ) (carry controls gux guy gox goy gx gy : List ℤ) (gflags contours : List ℕ) (tox toy tx ty : List ℤ) (tflags : List ℕ) where
  abbrev called : List ℤ → Carried
  called piece = feed_call_of (λ (by : Rules). fixed by controls gux guy gox goy contours) piece state numbers carry gx gy gflags tox toy tx ty tflags (by_number rules)

  pub fed_has_one_outcome : (p : Piece)
      (r₁ : ℕ) (carry₁ : List ℤ) (state₁ numbers₁ : List ℕ) (gx₁ gy₁ : List ℤ) (gflags₁ : List ℕ) (tox₁ toy₁ tx₁ ty₁ : List ℤ) (tflags₁ : List ℕ)
      (r₂ : ℕ) (carry₂ : List ℤ) (state₂ numbers₂ : List ℕ) (gx₂ gy₂ : List ℤ) (gflags₂ : List ℕ) (tox₂ toy₂ tx₂ ty₂ : List ℤ) (tflags₂ : List ℕ)
      → carried carry₁ (leaves r₁ state₁ numbers₁ gx₁ gy₁ gflags₁ tox₁ toy₁ tx₁ ty₁ tflags₁)
      ≡ feed_call_of (λ (by : Rules). fixed by controls gux guy gox goy contours) (drop p.at p.words.now) state numbers carry gx gy gflags tox toy tx ty tflags (by_number rules)
      → carried carry₂ (leaves r₂ state₂ numbers₂ gx₂ gy₂ gflags₂ tox₂ toy₂ tx₂ ty₂ tflags₂)
      ≡ feed_call_of (λ (by : Rules). fixed by controls gux guy gox goy contours) (drop p.at p.words.now) state numbers carry gx gy gflags tox toy tx ty tflags (by_number rules)
      → (r₁ ≡ r₂)
      × (carry₁ ≡ carry₂)
      × (state₁ ≡ state₂)
      × (numbers₁ ≡ numbers₂)
      × (gx₁ ≡ gx₂)
      × (gy₁ ≡ gy₂)
      × (gflags₁ ≡ gflags₂)
      × (tox₁ ≡ tox₂)
      × (toy₁ ≡ toy₂)
      × (tx₁ ≡ tx₂)
      × (ty₁ ≡ ty₂)
      × (tflags₁ ≡ tflags₂)
  fed_has_one_outcome p = one_call (called (drop p.at p.words.now))

  pub feed_from_has_one_outcome : (words : List ℤ) (at : ℕ)
      (r₁ : ℕ) (carry₁ : List ℤ) (state₁ numbers₁ : List ℕ) (gx₁ gy₁ : List ℤ) (gflags₁ : List ℕ) (tox₁ toy₁ tx₁ ty₁ : List ℤ) (tflags₁ : List ℕ)
      (r₂ : ℕ) (carry₂ : List ℤ) (state₂ numbers₂ : List ℕ) (gx₂ gy₂ : List ℤ) (gflags₂ : List ℕ) (tox₂ toy₂ tx₂ ty₂ : List ℤ) (tflags₂ : List ℕ)
      → carried carry₁ (leaves r₁ state₁ numbers₁ gx₁ gy₁ gflags₁ tox₁ toy₁ tx₁ ty₁ tflags₁)
      ≡ feed_call_of (λ (by : Rules). fixed by controls gux guy gox goy contours) (drop at words) state numbers carry gx gy gflags tox toy tx ty tflags (by_number rules)
      → carried carry₂ (leaves r₂ state₂ numbers₂ gx₂ gy₂ gflags₂ tox₂ toy₂ tx₂ ty₂ tflags₂)
      ≡ feed_call_of (λ (by : Rules). fixed by controls gux guy gox goy contours) (drop at words) state numbers carry gx gy gflags tox toy tx ty tflags (by_number rules)
      → (r₁ ≡ r₂)
      × (carry₁ ≡ carry₂)
      × (state₁ ≡ state₂)
      × (numbers₁ ≡ numbers₂)
      × (gx₁ ≡ gx₂)
      × (gy₁ ≡ gy₂)
      × (gflags₁ ≡ gflags₂)
      × (tox₁ ≡ tox₂)
      × (toy₁ ≡ toy₂)
      × (tx₁ ≡ tx₂)
      × (ty₁ ≡ ty₂)
      × (tflags₁ ≡ tflags₂)
  feed_from_has_one_outcome words at = one_call (called (drop at words))
