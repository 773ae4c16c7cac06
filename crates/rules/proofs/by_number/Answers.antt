-- `rules::by_number` meets its contract: by the number. Assumes nothing.
use mathlib.Core.Path.{ap, sym}
use borrow.Author.Tests.{ne_eqb}
use Rattle.rules.specs.Rules.{by_number}
use Rattle.rules.proofs.by_number.Goals as goal

pub returns-in-0 : goal.returns-in-0
unfolding by_number
returns-in-0 c = sym (ap by_number c.in-0.is)

pub returns-in-1 : goal.returns-in-1
unfolding by_number
returns-in-1 c = sym (ap by_number c.in-1.is)

pub returns-in_default : goal.returns-in_default
unfolding by_number
returns-in_default c = let n = c.args.number in rw (ne_eqb n 0 c.in_default.in_default-own.rest.0.1, ne_eqb n 1 c.in_default.in_default-own.rest.1)
