-- `words::store` meets its contract: what is written so far and what is left make the whole. Assumes nothing.
use Rattle.std.proofs.Common.{map}
use Rattle.words.proofs.Storing.{Storing}
use Rattle.words.proofs.store.Given as goal

abbrev pub invariant-loop-i : goal.invariant-loop-i
invariant-loop-i g l = Storing l.first (map g.T.Kept.to_word l.items) l.initial.out l.out l.i
