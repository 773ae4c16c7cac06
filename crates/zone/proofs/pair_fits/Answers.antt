-- `zone::pair_fits` meets its contract: it is the two tests. Assumes nothing.
use Rattle.zone.specs.Sizes.{pair_fits}
use Rattle.zone.proofs.pair_fits.Goals as goal

pub returns : goal.returns
unfolding pair_fits
returns c = cc
