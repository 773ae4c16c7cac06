-- `feed_look::append` meets its contract: after i turns i words stand there. Assumes nothing.
use Rattle.feed_look.proofs.Copies.{Copying}
use Rattle.feed_look.proofs.append.Given as goal

abbrev pub invariant-loop-i : goal.invariant-loop-i
invariant-loop-i l = Copying l.words l.initial.kept l.at l.kept l.i
