-- `outline_steps::spot` meets its contract: along each axis. Assumes nothing.
use mathlib.Core.Path.{◌∙◌}
use Rattle.int.proofs.Words.{back64}
use Rattle.outline_numbers.specs.Drawing.{spot as spotAt}
use Rattle.outline_steps.proofs.spot.Goals as goal

-- src/lib.rt:114:1
pub returns : goal.returns
returns c = let m = c.midpoint in let n = c.midpoint-2 in
    let x = back64 m.result m.type_inv ∙ m.ensures in
    let y = back64 n.result n.type_inv ∙ n.ensures in
    λ i. spotAt (x i) (y i)
