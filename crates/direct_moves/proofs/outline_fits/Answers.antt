-- `direct_moves::outline_fits` meets its contract: it is the three tests. Assumes nothing.
use Rattle.direct_moves.specs.Direct.{outline_fits}
use Rattle.direct_moves.proofs.outline_fits.Goals as goal

pub returns : goal.returns
unfolding outline_fits
returns c = cc
