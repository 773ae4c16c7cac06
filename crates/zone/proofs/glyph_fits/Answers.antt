-- `zone::glyph_fits` meets its contract: it is the four tests. Assumes nothing.
use Rattle.zone.proofs.Cases.{glyph_are}
use Rattle.zone.proofs.glyph_fits.Goals as goal

pub returns : goal.returns
returns c = let t = c in let p = t in let a = p.args in
    glyph_are a.ox.now a.oy.now a.cx.now a.cy.now a.flags.now a.ux.now a.uy.now a.contours.now p.pair_fits.ensures t.twilight_fits.ensures c.contours_fit.ensures
