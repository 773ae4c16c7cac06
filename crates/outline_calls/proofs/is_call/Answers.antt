-- `outline_calls::is_call` meets its contract: test by test. Assumes nothing.
use mathlib.Core.Path.{ap}
use mathlib.Core.Bool.{Bool, ◌&&◌}
use lib.Dec.{eqb}
use lib.ListN.{length}
use Rattle.outline_calls.specs.Slots.{is_call}
use Rattle.outline_calls.proofs.is_call.Goals as goal

-- src/lib.rt:209:1
pub returns : goal.returns
unfolding is_call
returns c = let a = c.args in
    ap (λ (t : Bool). t && (eqb (length a.edges.now) 4 && (eqb (length a.step.now) 1 && eqb (length a.numbers.now) 4))) c.is_pen.ensures
