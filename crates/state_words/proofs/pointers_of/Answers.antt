-- `state_words::pointers_of` meets its contract. Assumes nothing.
use mathlib.Core.Path.{◌∙◌, ap}
use Rattle.state_words.specs.Words.{state_of, zone_of}
use Rattle.state_words.proofs.Same.{same_pointers}
use Rattle.state_words.proofs.pointers_of.Goals as goal

pub returns : goal.returns
unfolding state_of
returns c =
    same_pointers (c.zone_of-zp0.ensures ∙ ap zone_of c.word.ensures) (c.zone_of-zp1.ensures ∙ ap zone_of c.word-2.ensures) (c.zone_of-zp2.ensures ∙ ap zone_of c.word-3.ensures)
