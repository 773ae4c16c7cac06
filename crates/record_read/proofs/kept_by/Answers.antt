-- `record_read::kept_by` meets its contract. Assumes nothing.
use Rattle.std.proofs.Common.{rules}
use Rattle.record_read.proofs.Editions.{none_kept}
use Rattle.record_read.proofs.kept_by.Goals as goal

-- each edition by itself, so that a wrong one is seen beside the others
pub returns-in-1 : goal.returns-in-1
returns-in-1 c = search rules

pub returns-in-2 : goal.returns-in-2
returns-in-2 c = search rules

pub returns-in_default : goal.returns-in_default
returns-in_default c = none_kept c.args.edition c.in_default.in_default-own.rest.0.0.1 c.in_default.in_default-own.rest.0.1 c.in_default.in_default-own.rest.1
