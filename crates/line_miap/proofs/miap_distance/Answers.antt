-- `line_miap::miap_distance` meets its contract: by whether the opcode is odd. Assumes nothing.
use mathlib.Core.Path.{◌∙◌, ap, ap₂}
use mir.Facts.{to_z-of_z}
use Rattle.int.proofs.Words.{back32}
use Rattle.line_distance.proofs.Seen.{near_by}
use Rattle.line_distance.specs.Distance.{cut_in_of, rounded_unless}
use Rattle.line_steps.specs.Numbers.{step_from}
use Rattle.round.specs.Tracked.{given}
use Rattle.line_miap.specs.Numbers.{miap_distance}
use Rattle.line_miap.proofs.miap_distance.Goals as goal

pub returns-then-odd : goal.returns-then-odd
unfolding miap_distance
returns-then-odd c = let own = to_z-of_z c.ranges.own in
    rw c.if-odd.true
    (c.step_from.ensures
    ∙ ap₂ step_from own
    (c.rounded.ensures
    ∙ ap (rounded_unless c.args.native c.args.round)
    (back32 c.chosen-near.result c.chosen-near.type_inv
    ∙ near_by c.chosen-near.ensures (back32 c.cut_in_of.result c.cut_in_of.type_inv ∙ c.cut_in_of.ensures ∙ ap (cut_in_of c.args.native) (to_z-of_z c.ranges.cut_in)) (to_z-of_z c.ranges.control) own)))

pub returns-else-odd : goal.returns-else-odd
unfolding miap_distance
returns-else-odd c =
    rw c.if-odd.false (c.step_from-else-odd.ensures ∙ ap₂ step_from (to_z-of_z c.ranges.own) (c.as_it_is.ensures ∙ ap given (to_z-of_z c.ranges.control)))
