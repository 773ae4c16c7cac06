-- `record_write::store_counts` meets its contract. Assumes nothing.
use Rattle.record_write.proofs.Steps.{counts_stored}
use Rattle.record_write.proofs.store_counts.Goals as goal

pub returns : goal.returns
returns c =
    counts_stored c.args.l c.args.out.now c.way_back-back.ensures c.at_trailer.ensures c.store.ensures
