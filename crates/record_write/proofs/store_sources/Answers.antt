-- `record_write::store_sources` meets its contract: each list is stored over what the ones before it left. Assumes nothing.
use mathlib.Core.Path.{refl}
use Rattle.record_write.specs.Steps.{with_sources}
use Rattle.record_write.proofs.Steps.{stored}
use Rattle.record_write.proofs.store_sources.Goals as goal

pub returns : goal.returns
unfolding with_sources
returns c =
    stored _ c.place-2.ensures c.store-2.ensures
    (stored _ c.place.ensures c.store.ensures refl)
