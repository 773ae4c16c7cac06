-- `round::cut` meets its contract: a number is past 32 bits where its low 32 bits, widened again, are another. Assumes nothing.
use mathlib.Core.Path.{◌∙◌, ap}
use mir.Facts.{to_z-of_z}
use Rattle.int.proofs.Words.{back32}
use Rattle.int.specs.Word.{wrap32}
use Rattle.round.proofs.Exact.{cut_from}
use Rattle.round.proofs.cut.Goals as goal

pub returns : goal.returns
returns c = let s = c in
    rw (back32 c.low32-word.result c.low32-word.type_inv) (cut_from s.args.before s.ranges.exact (c.low32-word.ensures ∙ ap wrap32 (to_z-of_z s.ranges.exact)))
