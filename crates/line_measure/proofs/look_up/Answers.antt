-- `line_measure::look_up` meets its contract: by whether the original outline is asked for. Assumes nothing.
use Rattle.line_measure.specs.Steps.{looked_up}
use Rattle.line_measure.proofs.Cases.{left, taken}
use Rattle.line_measure.proofs.look_up.Goals as goal

pub fetch_in-requires : goal.fetch_in-requires
fetch_in-requires c = let h = c.requires in (h.0, h.2)

pub fetch_in-requires-else-original : goal.fetch_in-requires-else-original
fetch_in-requires-else-original c = let h = c.requires in (h.1, h.3)

pub returns-then-original : goal.returns-then-original
unfolding looked_up
returns-then-original c = taken _ _ c.if-original.true c.fetch_in.ensures

pub returns-else-original : goal.returns-else-original
unfolding looked_up
returns-else-original c = left _ _ c.if-original.false c.fetch_in-else-original.ensures
