-- `record_write::store` meets its contract: each part is stored over what the ones before it left. Assumes nothing.
use mathlib.Core.Path.{◌∙◌, ap}
use Rattle.record_write.specs.Steps.{with_currents, with_originals, with_record, with_sources, with_trailer, with_twilight}
use Rattle.record_write.proofs.store.Goals as goal

pub returns : goal.returns
unfolding with_record
returns c =
    let a = c.args in
    c.store_trailer.ensures
    ∙ ap (with_trailer a.l)
    (c.store_sources.ensures
    ∙ ap (with_sources a.l a.controls.now a.sheet.now)
    (c.store_twilight.ensures
    ∙ ap (with_twilight a.l a.tox.now a.toy.now a.tx.now a.ty.now a.tflags.now)
    (c.store_currents.ensures
    ∙ ap (with_currents a.l a.gx.now a.gy.now a.gflags.now a.contours.now)
    (c.store_originals.ensures
    ∙ ap (with_originals a.l a.gux.now a.guy.now a.gox.now a.goy.now) c.store_state.ensures))))
