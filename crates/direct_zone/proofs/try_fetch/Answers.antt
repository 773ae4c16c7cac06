-- `direct_zone::try_fetch` meets its contract: by what `pair_fits` says. Assumes nothing.
use mathlib.Core.Path.{sym, ◌∙◌}
use Rattle.zone.proofs.Cases.{pair_length}
use Rattle.zone.proofs.Tried.{within, outside}
use Rattle.direct_zone.proofs.try_fetch.Goals as goal

pub fetch-requires : goal.fetch-requires
fetch-requires c = let s = c in pair_length s.args.xs.now s.args.ys.now (sym c.pair_fits.ensures ∙ c.if-pair_fits.true)

pub returns-then-pair_fits : goal.returns-then-pair_fits
returns-then-pair_fits c = let i = c in within _ i.pair_fits.ensures i.if-pair_fits.true c.fetch.ensures

pub returns-else-pair_fits : goal.returns-else-pair_fits
returns-else-pair_fits c = outside _ _ c.pair_fits.ensures c.if-pair_fits.false
