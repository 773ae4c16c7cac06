-- `feed_arriving::say` meets its contract: the answer by number and detail. Assumes nothing.
use mathlib.Core.Path.{ap₂}
use Prim.Native.Nat.{ℕ}
use Rattle.record_layout.specs.declared.Layout.{Layout}
use Rattle.record_run.specs.declared.Replayed.{Replayed}
use Rattle.feed_arriving.proofs.say.Goals as goal

abbrev replayed : Layout → ℕ → ℕ → ℕ → ℕ → ℕ → Replayed
replayed l number place lines detail size = record { number = number; place = place; lines = lines; detail = detail; size = size; layout = l }

pub returns : goal.returns
returns c =
    ap₂ (λ (number detail : ℕ). replayed c.args.l number c.args.e.base c.args.lines detail c.args.size) c.number.ensures c.detail.ensures
