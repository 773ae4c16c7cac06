-- `line_alignrp::align_each` meets its contract. The invariant: what is left to do from k on is the whole (`Left`). Assumes nothing.
use Rattle.line_alignrp.specs.Loop.{align_at}
use Rattle.line_steps.proofs.Walk.{Left}
use Rattle.line_steps.specs.Loop.{zones}
use Rattle.line_alignrp.proofs.align_each.Given as goal

abbrev pub invariant-loop-k : goal.invariant-loop-k
invariant-loop-k l = Left (align_at l.s) l.count l.operands (zones l.initial.gx l.initial.gy l.initial.gflags l.initial.tx l.initial.ty l.initial.tflags) l.k (zones l.gx l.gy l.gflags l.tx l.ty l.tflags)
