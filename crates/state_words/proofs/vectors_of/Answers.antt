-- `state_words::vectors_of` meets its contract. Assumes nothing.
use Rattle.state_words.specs.Words.{state_of}
use Rattle.state_words.proofs.Same.{same_vectors}
use Rattle.state_words.proofs.vectors_of.Goals as goal

pub returns : goal.returns
unfolding state_of
returns c = same_vectors c.vector-projection.ensures c.vector-dual.ensures c.vector-freedom.ensures
