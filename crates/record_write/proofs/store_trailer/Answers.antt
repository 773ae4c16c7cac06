-- `record_write::store_trailer` meets its contract. Assumes nothing.
use mathlib.Core.Path.{ap, ◌∙◌}
use Rattle.record_write.specs.Steps.{with_sum}
use Rattle.record_write.proofs.store_trailer.Goals as goal

pub returns : goal.returns
returns c =
    c.store_sum.ensures ∙ ap (with_sum c.args.l) c.store_counts.ensures
