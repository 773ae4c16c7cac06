-- `line::refused` meets its contract: the state by its words is the state. Assumes nothing.
use mathlib.Core.Path.{ap}
use Rattle.graphics.specs.declared.GraphicsState.{GraphicsState}
use Rattle.line.specs.Line.{refused_with}
use Rattle.line.proofs.refused.Goals as goal

pub returns : goal.returns
returns c = let s = c in ap (λ (t : GraphicsState). refused_with t s.args.why) c.by_words.ensures
