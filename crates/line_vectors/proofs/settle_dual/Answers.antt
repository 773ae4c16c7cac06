-- `line_vectors::settle_dual` meets its contract: by what was found, in the original outline first. Assumes nothing.
use Rattle.line_vectors.proofs.Cases.{old_out, now_out, dual_there}
use Rattle.line_vectors.proofs.settle_dual.Goals as goal

pub returns-in-Err : goal.returns-in-Err
returns-in-Err c = let a = c.args in old_out a.s a.now c.in-Err.is c.refused.ensures

pub returns-in-Err-now : goal.returns-in-Err-now
returns-in-Err-now c = let a = c.args in now_out a.s c.in-Ok.is c.in-Err-now.is c.refused-in-Err-now.ensures

pub returns-in-Ok-now : goal.returns-in-Ok-now
returns-in-Ok-now c = let a = c.args in dual_there a.s c.in-Ok.is c.in-Ok-now.is c.set_dual.ensures c.done.ensures
