-- `zone::placed_fits` meets its contract: it is the two tests. Assumes nothing.
use Rattle.zone.proofs.Cases.{placed_are}
use Rattle.zone.proofs.placed_fits.Goals as goal

pub returns : goal.returns
returns c = let a = c.args in placed_are a.xs.now a.ys.now a.flags.now c.pair_fits.ensures
