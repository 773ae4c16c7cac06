-- `line_sizes::set_size` meets its contract: it is what its call ensures. Assumes nothing.
use mathlib.Core.Path.{ap, ◌∙◌}
use mir.Facts.{to_z-of_z}
use Rattle.line_sizes.specs.Sizes.{with_measures, sized_by, size_by}
use Rattle.line_sizes.proofs.set_size.Goals as goal

pub returns : goal.returns
unfolding size_by
returns c = let a = c.args in ap (with_measures a.s) (c.sized-m.ensures ∙ ap (sized_by a.s.measures a.opcode) (to_z-of_z c.ranges.word))
