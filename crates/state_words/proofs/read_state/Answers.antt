-- `state_words::read_state` meets its contract. Assumes nothing.
use Rattle.state_words.specs.Words.{state_of}
use Rattle.state_words.proofs.Same.{same_state}
use Rattle.state_words.proofs.read_state.Goals as goal

pub returns : goal.returns
unfolding state_of
returns c =
    let f = c in let m = f in let z = m in let l = z in let p = l in let r = p in
    same_state r.vectors_of-vectors.ensures r.round_of-round.ensures p.references_of-references.ensures l.word-loop_counter.ensures z.pointers_of-pointers.ensures
    m.measures_of-measures.ensures f.facts_of-facts.ensures c.tallies_of-tallies.ensures
