-- `record_write::store_originals` meets its contract: each part is stored over what the ones before it left. Assumes nothing.
use mathlib.Core.Path.{refl}
use Rattle.record_write.specs.Steps.{with_originals}
use Rattle.record_write.proofs.Steps.{stored}
use Rattle.record_write.proofs.store_originals.Goals as goal

pub returns : goal.returns
unfolding with_originals
returns c =
    stored _ c.place-4.ensures c.store-4.ensures
    (stored _ c.place-3.ensures c.store-3.ensures
    (stored _ c.place-2.ensures c.store-2.ensures
    (stored _ c.place.ensures c.store.ensures refl)))
