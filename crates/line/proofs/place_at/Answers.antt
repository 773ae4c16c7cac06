-- `line::place_at` meets its contract: each coordinate is what its call ensures. Assumes nothing.
use Rattle.int.proofs.Words.{back32}
use Rattle.line.proofs.place_at.Goals as goal

pub returns : goal.returns
returns c = let k = c in
    cc (back32 k.coordinate_or_0-x.result k.coordinate_or_0-x.type_inv, back32 c.coordinate_or_0-y.result c.coordinate_or_0-y.type_inv)
