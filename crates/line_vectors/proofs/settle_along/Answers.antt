-- `line_vectors::settle_along` meets its contract: by what was found. Assumes nothing.
use Rattle.line_vectors.proofs.Cases.{found_out, found_there}
use Rattle.line_vectors.proofs.settle_along.Goals as goal

pub returns-in-Err : goal.returns-in-Err
returns-in-Err c = let a = c.args in found_out a.s a.opcode c.in-Err.is c.refused.ensures

pub returns-in-Ok : goal.returns-in-Ok
returns-in-Ok c = let a = c.args in found_there a.s a.opcode c.in-Ok.is c.set_along.ensures c.done.ensures
