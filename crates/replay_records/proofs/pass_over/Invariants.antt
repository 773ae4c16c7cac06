-- Each turn passes over a byte or more.
use Rattle.std.proofs.Common.{◌-◌, ◌≤◌}
use Rattle.replay_records.specs.Block.{Within}
use Rattle.replay_records.proofs.pass_over.Given as goal

abbrev pub invariant-loop-size : goal.invariant-loop-size
invariant-loop-size l = Within l.reader × (l.size ≤ l.count)

abbrev pub decreases-loop-size : goal.decreases-loop-size
decreases-loop-size l = l.count - l.size
