-- `line_sizes::set_flipping` meets its contract: it is what its call ensures. Assumes nothing.
use mathlib.Core.Path.{ap}
use Rattle.line_sizes.specs.Sizes.{with_measures, flip_by}
use Rattle.line_sizes.proofs.set_flipping.Goals as goal

pub returns : goal.returns
unfolding flip_by
returns c = let s = c.args.s in ap (with_measures s) c.with_flipping-m.ensures
