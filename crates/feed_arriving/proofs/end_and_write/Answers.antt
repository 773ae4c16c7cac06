-- `feed_arriving::end_and_write` meets its contract: what the end left is written. Assumes nothing.
use mathlib.Core.Path.{refl}
use Rattle.rules.specs.declared.Rules.TheVariants.{FreeType}
use Rattle.line.specs.World.{fixed}
use Rattle.feed_arriving.proofs.Ends.{ended_written}
use Rattle.feed_arriving.proofs.end_and_write.Goals as goal

pub slice_bounds-write-end : goal.slice_bounds-write-end
slice_bounds-write-end c = refl

pub returns : goal.returns
returns c rules =
    let a = c.args in
    ended_written a.most a.l a.lines
    (fixed FreeType a.controls.now a.gux.now a.guy.now a.gox.now a.goy.now a.contours.now) a.out.now c.end-e.result
    a.carry.now a.gx.now a.gy.now a.gflags.now a.tox.now a.toy.now a.tx.now a.ty.now a.tflags.now
    (c.end-e.ensures rules) c.write-size.ensures c.say.ensures
