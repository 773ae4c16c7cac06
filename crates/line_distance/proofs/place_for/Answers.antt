-- `line_distance::place_for` meets its contract: by the outline. Assumes nothing.
use Rattle.line_distance.proofs.Seen.{no_of, yes_of}
use Rattle.line_distance.proofs.place_for.Goals as goal

pub returns-then-original : goal.returns-then-original
returns-then-original c = yes_of _ c.if-original.true c.place_in.ensures

pub returns-else-original : goal.returns-else-original
returns-else-original c = no_of _ c.if-original.false c.place_at.ensures
