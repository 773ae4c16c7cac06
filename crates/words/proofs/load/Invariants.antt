-- `words::load` meets its contract: the elements below i are the list's, and the others as they were. Assumes nothing.
use Rattle.std.proofs.Common.{map, length}
use Rattle.words.specs.Lists.{part}
use Rattle.words.proofs.Filling.{Filling}
use Rattle.words.proofs.load.Given as goal

abbrev pub invariant-loop-i : goal.invariant-loop-i
invariant-loop-i g l = Filling (map g.T.Kept.of_word (part l.bytes l.first (length l.initial.out))) l.initial.out l.out l.i
