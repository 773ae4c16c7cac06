-- `line_shift::shift_each` meets its contract. The invariant: what is left to do from k on is the whole (`Left`). Assumes nothing.
use Rattle.line_steps.proofs.Walk.{Left}
use Rattle.line_steps.specs.Loop.{points, shift_at}
use Rattle.line_shift.proofs.shift_each.Given as goal

abbrev pub invariant-loop-k : goal.invariant-loop-k
invariant-loop-k l = Left (shift_at l.m) l.count l.operands (points l.initial.xs l.initial.ys l.initial.flags) l.k (points l.xs l.ys l.flags)
