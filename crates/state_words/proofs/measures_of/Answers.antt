-- `state_words::measures_of` meets its contract. Assumes nothing.
use mathlib.Core.Path.{◌∙◌, ap}
use Rattle.int.proofs.Words.{back32}
use Rattle.state_words.specs.Words.{fact_of, state_of}
use Rattle.state_words.proofs.Same.{same_measures}
use Rattle.state_words.proofs.measures_of.Goals as goal

pub returns : goal.returns
unfolding state_of
returns c =
    let flip = c in let flipped = flip in let near = flipped in let width = near in let minimum = width in let cut = minimum in
    same_measures
    (back32 cut.number-cut_in.result cut.number-cut_in.type_inv ∙ cut.number-cut_in.ensures)
    (back32 minimum.number-minimum_distance.result minimum.number-minimum_distance.type_inv ∙ minimum.number-minimum_distance.ensures)
    (back32 width.number-single_width.result width.number-single_width.type_inv ∙ width.number-single_width.ensures)
    (back32 near.number-single_width_cut_in.result near.number-single_width_cut_in.type_inv ∙ near.number-single_width_cut_in.ensures)
    (flip.fact_of-auto_flip.ensures ∙ ap fact_of flipped.word.ensures)
    (back32 c.number-scale.result c.number-scale.type_inv ∙ c.number-scale.ensures)
