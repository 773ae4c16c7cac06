-- `outline_calls::pen_in` meets its contract: the walk and the box. Assumes nothing.
use Rattle.std.specs.Prelude.{Option}
use Rattle.outline_numbers.specs.declared.Edges.{Edges}
use Rattle.outline_steps.specs.declared.Pen.{Pen}
use Rattle.outline_steps.specs.declared.Walk.{Walk}
use mathlib.Core.Path.{◌≡◌}
use Rattle.outline_calls.proofs.pen_in.Goals as goal

-- src/lib.rt:79:1
made : {w v : Walk} {b d : Option Edges} → w ≡ v → b ≡ d → ◌≡◌ {A = Pen} (record { walk = w; bounds = b }) (record { walk = v; bounds = d })
made e f = λ i. record { walk = e i; bounds = f i }

pub returns : goal.returns
returns c =
    made c.walk_in.ensures c.bounds_in.ensures
