-- `line::done` meets its contract: the state by its words is the state. Assumes nothing.
use mathlib.Core.Path.{ap}
use Rattle.line.specs.Line.{done_with}
use Rattle.line.proofs.done.Goals as goal

pub returns : goal.returns
returns c = ap done_with c.by_words.ensures
