-- `record_write::store_currents` meets its contract: each part is stored over what the ones before it left. Assumes nothing.
use mathlib.Core.Path.{refl}
use Rattle.record_write.specs.Steps.{with_currents}
use Rattle.record_write.proofs.Steps.{stored, stored_as_is}
use Rattle.record_write.proofs.store_currents.Goals as goal

pub returns : goal.returns
unfolding with_currents
returns c =
    stored_as_is _ c.place-4.ensures c.store-4.ensures
    (stored_as_is _ c.place-3.ensures c.store-3.ensures
    (stored _ c.place-2.ensures c.store-2.ensures
    (stored _ c.place.ensures c.store.ensures refl)))
