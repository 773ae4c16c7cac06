-- `graphics::Vectors::are_in_range` meets its contract: it is what the three tests ensure. Assumes nothing.
use Rattle.graphics.proofs.Seen.{vectors}
use Rattle.graphics.proofs.Vectors.are_in_range.Goals as goal

pub returns : goal.returns
returns c = let b = c in let a = b in vectors a.args.self a.is_in_range.ensures b.is_in_range-2.ensures c.is_in_range-3.ensures
