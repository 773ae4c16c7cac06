-- One outcome of a feed's calls, as Outcome.antt has it of the others: `feed`, a piece, and `end`. Assumes nothing.
use Prim.Native.Nat.{ℕ}
use mathlib.Core.List.{List}
use mathlib.Core.Path.{◌≡◌}
use lib.IntN.{ℤ}
use lib.ListN.{drop}
use Rattle.line.specs.World.{fixed, world}
use Rattle.rules.specs.declared.Rules.TheVariants.{FreeType}
use Rattle.rules.specs.declared.Rules.{Rules}
use Rattle.feed_carry.specs.declared.Fed.{Fed}
use Rattle.feed.specs.Feed.{Left, end_of, feed_of, left}
use Rattle.laws_outcome.proofs.Outcome.{one_part}

-- what a call hands back beside the lists
abbrev fed_of : Left → Fed
fed_of x = record { said = x.said; base = x.base; held = x.held; lines = x.lines; state = x.world.state }

module _ (c : Fed) (carry controls gux guy gox goy gx gy : List ℤ) (gflags contours : List ℕ) (tox toy tx ty : List ℤ) (tflags : List ℕ) where
  pub feed_has_one_outcome : (at : ℕ) (rules : Rules) (piece : List ℤ)
      (r₁ : Fed) (carry₁ : List ℤ) (gx₁ gy₁ : List ℤ) (gflags₁ : List ℕ) (tox₁ toy₁ tx₁ ty₁ : List ℤ) (tflags₁ : List ℕ)
      (r₂ : Fed) (carry₂ : List ℤ) (gx₂ gy₂ : List ℤ) (gflags₂ : List ℕ) (tox₂ toy₂ tx₂ ty₂ : List ℤ) (tflags₂ : List ℕ)
      → left r₁ carry₁ gx₁ gy₁ gflags₁ tox₁ toy₁ tx₁ ty₁ tflags₁
      ≡ feed_of (fixed rules controls gux guy gox goy contours) c carry (drop at piece) (world c.state gx gy gflags tox toy tx ty tflags)
      → left r₂ carry₂ gx₂ gy₂ gflags₂ tox₂ toy₂ tx₂ ty₂ tflags₂
      ≡ feed_of (fixed rules controls gux guy gox goy contours) c carry (drop at piece) (world c.state gx gy gflags tox toy tx ty tflags)
      → (r₁ ≡ r₂)
      × (carry₁ ≡ carry₂)
      × (gx₁ ≡ gx₂)
      × (gy₁ ≡ gy₂)
      × (gflags₁ ≡ gflags₂)
      × (tox₁ ≡ tox₂)
      × (toy₁ ≡ toy₂)
      × (tx₁ ≡ tx₂)
      × (ty₁ ≡ ty₂)
      × (tflags₁ ≡ tflags₂)
  feed_has_one_outcome at rules piece r₁ carry₁ gx₁ gy₁ gflags₁ tox₁ toy₁ tx₁ ty₁ tflags₁ r₂ carry₂ gx₂ gy₂ gflags₂ tox₂ toy₂ tx₂ ty₂ tflags₂ p q = (
    one_part fed_of p q,
    one_part (λ (x : Left). x.carry) p q,
    one_part (λ (x : Left). x.world.gx) p q,
    one_part (λ (x : Left). x.world.gy) p q,
    one_part (λ (x : Left). x.world.gflags) p q,
    one_part (λ (x : Left). x.world.tox) p q,
    one_part (λ (x : Left). x.world.toy) p q,
    one_part (λ (x : Left). x.world.tx) p q,
    one_part (λ (x : Left). x.world.ty) p q,
    one_part (λ (x : Left). x.world.tflags) p q,
  )

  pub end_has_one_outcome : (r₁ r₂ : Fed)
      → ((rules : Rules) → left r₁ carry gx gy gflags tox toy tx ty tflags ≡ end_of (fixed rules controls gux guy gox goy contours) c carry (world c.state gx gy gflags tox toy tx ty tflags))
      → ((rules : Rules) → left r₂ carry gx gy gflags tox toy tx ty tflags ≡ end_of (fixed rules controls gux guy gox goy contours) c carry (world c.state gx gy gflags tox toy tx ty tflags))
      → r₁ ≡ r₂
  end_has_one_outcome r₁ r₂ p q = one_part fed_of (p FreeType) (q FreeType)
