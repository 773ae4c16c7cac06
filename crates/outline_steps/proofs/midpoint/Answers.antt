-- `outline_steps::midpoint` meets its contract: two words add up at 64 bits. Assumes nothing.
use mathlib.Core.Path.{◌∙◌}
use lib.IntN.{◌+ℤ◌}
use Rattle.outline_steps.proofs.Cases.{sum_holds, sum_read}
use Rattle.outline_steps.proofs.midpoint.Goals as goal

-- src/lib.rt:110:5
pub overflow_add-result : goal.overflow_add-result
overflow_add-result c = let x = c in
    sum_holds x.coordinate_or_0.result c.coordinate_or_0-2.result x.coordinate_or_0.type_inv c.coordinate_or_0-2.type_inv x.widen.ensures c.widen-2.ensures

-- src/lib.rt:107:1
pub returns : goal.returns
returns c = let x = c in
    sum_read x.coordinate_or_0.result c.coordinate_or_0-2.result x.coordinate_or_0.type_inv c.coordinate_or_0-2.type_inv x.widen.ensures c.widen-2.ensures
    ∙ (λ i. x.coordinate_or_0.ensures i +ℤ c.coordinate_or_0-2.ensures i)
