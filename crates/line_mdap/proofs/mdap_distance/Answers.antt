-- `line_mdap::mdap_distance` meets its contract: by whether the line rounds. Assumes nothing.
use mathlib.Core.Path.{◌∙◌, ap}
use Rattle.int.proofs.Words.{back32}
use Rattle.line_mdap.specs.Mdap.{mdap_distance, rounding_step}
use Rattle.line_mdap.proofs.mdap_distance.Goals as goal

pub returns-then-rounds : goal.returns-then-rounds
unfolding mdap_distance
returns-then-rounds c = rw c.if-rounds.true (c.rounding_step.ensures ∙ ap (rounding_step c.args.round) (back32 c.from_origin.result c.from_origin.type_inv ∙ c.from_origin.ensures))

pub returns-else-rounds : goal.returns-else-rounds
unfolding mdap_distance
returns-else-rounds c = rw c.if-rounds.false
