-- `record_write::store_sum` meets its contract. Assumes nothing.
use Rattle.record_write.proofs.Steps.{sum_stored}
use Rattle.record_write.proofs.store_sum.Goals as goal

pub returns : goal.returns
returns c =
    sum_stored c.args.l c.args.out.now c.sum_place-at.ensures c.sum.ensures c.store.ensures
