-- `direct_zone::try_unscaled` meets its contract: by what `pair_fits` says. Assumes nothing.
use Rattle.std.specs.Prelude.{Ok}
use mathlib.Core.Path.{ap}
use Rattle.zone.proofs.Tried.{within, outside}
use Rattle.direct_zone.proofs.try_unscaled.Goals as goal

pub returns-then-pair_fits : goal.returns-then-pair_fits
returns-then-pair_fits c = let i = c in within _ i.pair_fits.ensures i.if-pair_fits.true (ap Ok c.unscaled_at.ensures)

pub returns-else-pair_fits : goal.returns-else-pair_fits
returns-else-pair_fits c = outside _ _ c.pair_fits.ensures c.if-pair_fits.false
