-- `record_replay::refuse` meets its contract. Assumes nothing.
use mathlib.Core.Path.{◌≡◌, ap}
use Prim.Native.Nat.{ℕ}
use Rattle.state_words.specs.Words.{state_size}
use Rattle.record_layout.specs.declared.Layout.{Layout}
use Rattle.record_read.specs.Format.{layout}
use Rattle.record_run.specs.declared.Replayed.{Replayed}
use Rattle.record_replay.specs.Shelf.{refused_as}
use Rattle.record_replay.proofs.refuse.Goals as goal

refused : (n : ℕ) {l : Layout} → l ≡ layout state_size 0 0 0 0 0 → ◌≡◌ {A = Replayed} (record { number = n; place = 0; lines = 0; detail = 0; size = 0; layout = l }) (refused_as n)
refused n e = ap (λ l. record { number = n; place = 0; lines = 0; detail = 0; size = 0; layout = l }) e

pub returns : goal.returns
returns c = refused _ c.lay_out-layout.ensures
