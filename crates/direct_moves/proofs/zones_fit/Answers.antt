-- `direct_moves::zones_fit` meets its contract: it is the two tests. Assumes nothing.
use Rattle.direct_moves.proofs.Cases.{zones_are}
use Rattle.direct_moves.proofs.zones_fit.Goals as goal

pub returns : goal.returns
returns c = let a = c.args in
    zones_are a.gx.now a.gy.now a.gflags.now a.tx.now a.ty.now a.tflags.now c.placed_fits.ensures c.placed_fits-2.ensures
