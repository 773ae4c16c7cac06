-- `feed_look::lines_ahead` meets its contract: every turn passes one whole line. The measure is what is left of the sheet. Assumes nothing.
use Prim.Native.Nat.{◌-◌}
use lib.ListN.{length}
use Rattle.feed_look.proofs.Counts.{Counting}
use Rattle.feed_look.proofs.lines_ahead.Given as goal

abbrev pub invariant-loop-words : goal.invariant-loop-words
invariant-loop-words l = Counting l.sheet l.at l.lines l.end

abbrev pub decreases-loop-words : goal.decreases-loop-words
decreases-loop-words l = length l.sheet - l.end
