-- `line::size_of` meets its contract: by the pointer. Assumes nothing.
use mathlib.Core.Path.{sym, ap}
use Rattle.line.specs.Places.{size_of}
use Rattle.line.proofs.size_of.Goals as goal

pub returns-in-Glyph : goal.returns-in-Glyph
unfolding size_of
returns-in-Glyph c = let s = c in
    sym (ap (size_of s.args.glyph s.args.twilight) c.in-Glyph.is)

pub returns-in-Twilight : goal.returns-in-Twilight
unfolding size_of
returns-in-Twilight c = let s = c in
    sym (ap (size_of s.args.glyph s.args.twilight) c.in-Twilight.is)
