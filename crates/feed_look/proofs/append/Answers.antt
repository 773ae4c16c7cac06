-- `feed_look::append` meets its contract: after i turns i words stand there. Assumes nothing.
use Rattle.std.proofs.Common.{rules}
use Rattle.feed_look.proofs.Copies.{copy_turn}
use Rattle.feed_look.proofs.append.Goals as goal

pub loop-i-preserved : goal.loop-i-preserved
loop-i-preserved c = search (rules, copy_turn c.loop-i.invariant c.loop-i-test.true)
