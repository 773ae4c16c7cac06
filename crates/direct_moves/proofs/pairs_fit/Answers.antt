-- `direct_moves::pairs_fit` meets its contract: it is the two tests. Assumes nothing.
use Rattle.direct_moves.proofs.Cases.{pairs_are}
use Rattle.direct_moves.proofs.pairs_fit.Goals as goal

pub returns : goal.returns
returns c = let a = c.args in
    pairs_are a.gx.now a.gy.now a.tx.now a.ty.now c.pair_fits.ensures c.pair_fits-2.ensures
