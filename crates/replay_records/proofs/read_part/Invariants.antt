-- Each turn takes a byte or more.
use Rattle.std.proofs.Common.{length, ◌-◌, ◌≤◌, ◌≡◌}
use Rattle.replay_records.specs.Block.{Within}
use Rattle.replay_records.proofs.read_part.Given as goal

abbrev pub invariant-loop-size : goal.invariant-loop-size
invariant-loop-size l = Within l.reader × ((l.size ≤ length l.piece) × (length l.piece ≡ length l.initial.piece))

abbrev pub decreases-loop-size : goal.decreases-loop-size
decreases-loop-size l = length l.initial.piece - l.size
