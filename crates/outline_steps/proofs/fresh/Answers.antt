-- `outline_steps::fresh` meets its contract: the first walk, and no box. Assumes nothing.
use Rattle.std.specs.Prelude.{None}
use mathlib.Core.Path.{◌≡◌}
use Rattle.outline_steps.specs.declared.Pen.{Pen}
use Rattle.outline_steps.specs.declared.Walk.{Walk}
use Rattle.outline_steps.proofs.fresh.Goals as goal

boxless : {w v : Walk} → w ≡ v → ◌≡◌ {A = Pen} (record { walk = w; bounds = None }) (record { walk = v; bounds = None })
boxless e = λ i. record { walk = e i; bounds = None }

pub returns : goal.returns
returns c = boxless c.first_walk.ensures
