-- `line_vectors::line_found` meets its contract: where both operands are there it is what its calls ensure, put together. Assumes nothing.
use Rattle.line_vectors.proofs.Cases.{line_short, line_there}
use Rattle.line_vectors.proofs.line_found.Goals as goal

pub returns-then-operands-lt2 : goal.returns-then-operands-lt2
returns-then-operands-lt2 c = let a = c.args in line_short a.across a.operands.now a.zp1 a.zp2 a.gx.now a.gy.now a.tx.now a.ty.now c.if-operands-lt2.true

pub returns : goal.returns
returns c = let a = c.args in
    line_there a.across a.operands.now a.zp1 a.zp2 a.gx.now a.gy.now a.tx.now a.ty.now c.if-operands-lt2.false c.index_at-second.ensures c.index_at-first.ensures c.fetch_in-p.ensures c.fetch_in-q.ensures c.line_by.ensures
