-- `words::sum` meets its contract: what is summed so far and what is left make the whole. Assumes nothing.
use Rattle.words.specs.Lists.{part, sum_of}
use Rattle.words.proofs.Parts.{left, Summing}
use Rattle.words.proofs.sum.Given as goal

abbrev pub invariant-loop-i : goal.invariant-loop-i
invariant-loop-i l = Summing (sum_of (part l.bytes 0 l.count)) (sum_of (left l.bytes 0 l.count l.i)) l.sum
