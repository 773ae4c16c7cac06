-- `state_words::references_of` meets its contract. Assumes nothing.
use Rattle.state_words.specs.Words.{state_of}
use Rattle.state_words.proofs.Same.{same_references}
use Rattle.state_words.proofs.references_of.Goals as goal

pub returns : goal.returns
unfolding state_of
returns c = same_references c.long-rp0.ensures c.long-rp1.ensures c.long-rp2.ensures
