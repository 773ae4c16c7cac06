-- `record_print::count_digits` meets its contract: the digits counted and those of the rest make the number's. Assumes nothing.
use native.Mathlib.Omega.{arith}
use Rattle.record_print.proofs.Decimal.{digits_most, one_long, one_longer}
use Rattle.record_print.proofs.count_digits.Goals as goal

pub loop-rest-init : goal.loop-rest-init
loop-rest-init c = omega arith

pub overflow_add-count : goal.overflow_add-count
overflow_add-count c = omega (arith, digits_most 19 c.args.n (omega arith))

pub loop-rest-smaller : goal.loop-rest-smaller
loop-rest-smaller c = omega arith

pub loop-rest-preserved : goal.loop-rest-preserved
loop-rest-preserved c = omega (arith, one_longer c.loop-rest.rest c.loop-rest-test.true)

pub returns : goal.returns
returns c = omega (arith, one_long c.loop-rest.rest c.loop-rest-test.false)
