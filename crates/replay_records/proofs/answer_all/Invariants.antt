-- The reader stands within its block, and there is room for one more frame.
use Rattle.std.proofs.Common.{◌≤◌}
use Rattle.replay_records.specs.Block.{Within}
use Rattle.replay_records.proofs.answer_all.Given as goal

abbrev pub invariant-loop-number : goal.invariant-loop-number
invariant-loop-number g l = Within l.stream.reader × (l.stream.waiting ≤ 40956)
