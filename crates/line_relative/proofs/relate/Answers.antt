-- `line_relative::relate` meets its contract: by whether rp0 is set. Assumes nothing.
use Rattle.line_relative.proofs.Cases.{all_set, rp0_left}
use Rattle.line_relative.proofs.relate.Goals as goal

pub returns-then-sets : goal.returns-then-sets
returns-then-sets c = all_set c.args.s c.args.at c.if-sets.true c.with_rp1.ensures c.with_rp2-t.ensures c.with_rp0.ensures

pub returns-else-sets : goal.returns-else-sets
returns-else-sets c = rp0_left c.args.s c.args.at c.if-sets.false c.with_rp1.ensures c.with_rp2-t.ensures
