-- `line::sizes_fit` meets its contract: it is the four tests. Assumes nothing.
use borrow.Author.Rules.{rules}
use Rattle.line.specs.Sizes.{fits}
use Rattle.line.proofs.sizes_fit.Goals as goal

pub returns : goal.returns
unfolding fits
returns c = λ rules. cc
