-- `line_flip::flip_each` meets its contract. The invariant: what is left to do from k on is the whole (`Left`). Assumes nothing.
use Rattle.line_steps.proofs.Walk.{Left}
use Rattle.line_flip.specs.Steps.{flip_at}
use Rattle.line_flip.proofs.flip_each.Given as goal

abbrev pub invariant-loop-k : goal.invariant-loop-k
invariant-loop-k l = Left flip_at l.count l.operands l.initial.gflags l.k l.gflags
