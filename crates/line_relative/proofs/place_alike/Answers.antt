-- `line_relative::place_alike` meets its contract: by the test of the index; each coordinate is read back as it was. Assumes nothing.
use Rattle.line_relative.proofs.Places.{place_outside}
use Rattle.line_relative.proofs.place_alike.Goals as goal

pub returns-else-i-xs : goal.returns-else-i-xs
returns-else-i-xs c = place_outside c.args.xs.now c.args.ys.now c.args.at c.requires c.if-i-xs.false
