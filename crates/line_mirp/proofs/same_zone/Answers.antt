-- `line_mirp::same_zone` meets its contract: by the two pointers. Assumes nothing.
use Rattle.line_mirp.proofs.Cases.{same_by}
use Rattle.line_mirp.proofs.same_zone.Goals as goal

pub returns : goal.returns
returns c = same_by c.args.p c.args.q c.is_twilight.ensures c.is_twilight-2.ensures
