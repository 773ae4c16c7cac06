-- `line_isect::isect` meets its contract: by whether all operands are there, and then what the lines give, in any world that holds the lists lent. Assumes nothing.
use mathlib.Core.List.{List}
use mathlib.Core.Path.{ap}
use lib.IntN.{ℤ}
use Rattle.line_steps.proofs.Laws.{in_words}
use Rattle.line_steps.specs.Steps.{into}
use Rattle.line.specs.World.{World, world}
use Rattle.line_isect.proofs.Cases.{isect_missing, isect_out, isect_put}
use Rattle.line_isect.proofs.isect.Goals as goal
use Rattle.line_isect.proofs.isect.Goals.{Start}

-- ---- places of the walk, found by their types
abbrev entry : Start → List ℤ → List ℤ → World
entry s tox toy = let a = s.args in
    world a.s a.gx.now a.gy.now a.gflags.now tox toy a.tx.now a.ty.now a.tflags.now

pub returns-then-operands-lt5 : goal.returns-then-operands-lt5
returns-then-operands-lt5 c = λ f opcode tox toy. isect_missing f opcode c.args.operands.now (entry (goal.at.returns-then-operands-lt5 c).Start tox toy) c.if-operands-lt5.true (ap (into (entry (goal.at.returns-then-operands-lt5 c).Start tox toy)) c.refused.ensures)

pub returns-in-Err : goal.returns-in-Err
returns-in-Err c = λ f opcode tox toy. isect_out f opcode c.args.operands.now (entry (goal.at.returns-in-Err c).Start tox toy) c.if-operands-lt5.false c.index_at-b1.ensures c.index_at-b0.ensures c.index_at-a1.ensures c.index_at-a0.ensures c.index_at-at.ensures
    (c.meeting-met.ensures c.args.s c.args.gflags.now tox toy c.args.tflags.now)
    c.in-Err.is
    (ap (into (entry (goal.at.returns-in-Err c).Start tox toy)) c.refused-in-Err.ensures)

pub returns-in-Ok : goal.returns-in-Ok
returns-in-Ok c = λ f opcode tox toy. in_words c.by_words.ensures (isect_put f opcode c.args.operands.now (entry (goal.at.returns-in-Ok c).Start tox toy) c.if-operands-lt5.false c.index_at-b1.ensures c.index_at-b0.ensures c.index_at-a1.ensures c.index_at-a0.ensures c.index_at-at.ensures
    (c.meeting-met.ensures c.args.s c.args.gflags.now tox toy c.args.tflags.now)
    c.in-Ok.is
    c.put_in-call.ensures)
