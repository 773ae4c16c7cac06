-- `outline_calls::walk_in` meets its contract: word by word. Assumes nothing.
use mathlib.Core.Path.{ap}
use Rattle.outline_calls.specs.Slots.{walk_in}
use Rattle.outline_steps.specs.Pen.{on_to}
use Rattle.outline_calls.proofs.walk_in.Goals as goal

-- src/lib.rt:63:1
pub returns : goal.returns
returns c = let a = c.args in
    ap (on_to (walk_in a.words.now) (walk_in a.words.now).at) c.stage_in-stage.ensures
