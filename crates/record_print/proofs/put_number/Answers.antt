-- `record_print::put_number` meets its contract: the digits, and the byte behind them. Assumes nothing.
use mathlib.Core.List.{[], ◌∷◌}
use native.Mathlib.Omega.{arith}
use lib.ListN.{length-append}
use Rattle.record_print.specs.Text.{decimal}
use Rattle.record_print.proofs.Puts.{put_byte}
use Rattle.record_print.proofs.put_number.Goals as goal

pub put_digits-next-requires : goal.put_digits-next-requires
put_digits-next-requires c = omega (arith, c.requires, length-append (decimal c.args.n) (c.args.end ∷ []))

pub bounds-text-next : goal.bounds-text-next
bounds-text-next c =
    omega (arith, c.requires, length-append (decimal c.args.n) (c.args.end ∷ []), c.put_digits-next.ensures.behind, c.put_digits-next.auto.text)

pub overflow_add-result : goal.overflow_add-result
overflow_add-result c =
    omega (arith, c.requires, length-append (decimal c.args.n) (c.args.end ∷ []), c.put_digits-next.ensures.behind)

pub returns : goal.returns
returns c = put_byte c.args.end c.put_digits-next.ensures
