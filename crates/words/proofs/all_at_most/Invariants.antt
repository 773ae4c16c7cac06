-- `words::all_at_most` meets its contract: the answer for all is that for what is left. Assumes nothing.
use Rattle.std.proofs.Common.{◌≡◌}
use Rattle.words.specs.Lists.{all_at_most, part}
use Rattle.words.proofs.Parts.{left}
use Rattle.words.proofs.all_at_most.Given as goal

abbrev pub invariant-loop-i : goal.invariant-loop-i
invariant-loop-i l = all_at_most l.most (part l.bytes l.first l.count) ≡ all_at_most l.most (left l.bytes l.first l.count l.i)
