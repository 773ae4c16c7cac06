-- `record_write::store_twilight` meets its contract: each list is stored over what the ones before it left. Assumes nothing.
use mathlib.Core.Path.{refl}
use Rattle.record_write.specs.Steps.{with_twilight}
use Rattle.record_write.proofs.Steps.{stored, stored_as_is}
use Rattle.record_write.proofs.store_twilight.Goals as goal

pub returns : goal.returns
unfolding with_twilight
returns c =
    stored_as_is _ c.place-5.ensures c.store-5.ensures
    (stored _ c.place-4.ensures c.store-4.ensures
    (stored _ c.place-3.ensures c.store-3.ensures
    (stored _ c.place-2.ensures c.store-2.ensures
    (stored _ c.place.ensures c.store.ensures refl))))
