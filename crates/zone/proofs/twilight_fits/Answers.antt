-- `zone::twilight_fits` meets its contract: it is the three tests. Assumes nothing.
use Rattle.zone.proofs.Cases.{twilight_are}
use Rattle.zone.proofs.twilight_fits.Goals as goal

pub returns : goal.returns
returns c = let p = c in let a = p.args in
    twilight_are a.ox.now a.oy.now a.cx.now a.cy.now a.flags.now p.pair_fits.ensures c.placed_fits.ensures
