-- `record_run::run_and_write` meets its contract: the run's world is what is written. Assumes nothing.
use Rattle.rules.specs.declared.Rules.TheVariants.{FreeType}
use Rattle.line.specs.World.{fixed, world}
use Rattle.record_run.proofs.Cases.{lists_left, ran_and_written}
use Rattle.record_run.proofs.run_and_write.Goals as goal

pub returns : goal.returns
returns c =
    let a = c.args in
    let f = fixed FreeType a.controls.now a.gux.now a.guy.now a.gox.now a.goy.now a.contours.now in
    let w = world a.s a.gx.now a.gy.now a.gflags.now a.tox.now a.toy.now a.tx.now a.ty.now a.tflags.now in record {
      out_after = ran_and_written a.rules a.most a.l f a.sheet.now w a.out.now c.run-outcome.result
          c.run-outcome.new.gx c.run-outcome.new.gy c.run-outcome.new.gflags c.run-outcome.new.tox c.run-outcome.new.toy c.run-outcome.new.tx c.run-outcome.new.ty c.run-outcome.new.tflags
          c.run-outcome.ensures c.write-size.ensures c.say.ensures;
      tflags_after = lists_left a.rules f a.sheet.now w c.run-outcome.result
          c.run-outcome.new.gx c.run-outcome.new.gy c.run-outcome.new.gflags c.run-outcome.new.tox c.run-outcome.new.toy c.run-outcome.new.tx c.run-outcome.new.ty c.run-outcome.new.tflags
          c.run-outcome.ensures;
    }
