-- `outline_print::put_size` meets its contract: whole pixels, the digits behind the point, and a byte. Assumes nothing.
use mathlib.Core.Path.{◌≡◌}
use Prim.Native.Nat.{ℕ, ◌+◌, ◌/◌, ◌%◌}
use mathlib.Core.List.{[], ◌∷◌, ◌++◌}
use native.Mathlib.Omega.{arith}
use lib.ListN.{length, length-append}
use Rattle.record_print.proofs.Puts.{put_join, put_byte}
use Rattle.record_print.specs.Steps.{ended_by}
use Rattle.record_print.specs.Text.{decimal}
use Rattle.outline_print.specs.Lines.{pointed, size_text}
use Rattle.outline_print.proofs.put_size.Goals as goal

long : (n end : ℕ) → length (ended_by (size_text n) end) ≡ length (decimal (n / 128)) + length (pointed (n % 128)) + 1
unfolding size_text
long n end = omega (arith, length-append (decimal (n / 128) ++ pointed (n % 128)) (end ∷ []), length-append (decimal (n / 128)) (pointed (n % 128)))

pub put_digits-point-requires : goal.put_digits-point-requires
put_digits-point-requires c = omega (arith, c.requires, long c.args.n c.args.end)

pub put_pointed-next-requires : goal.put_pointed-next-requires
put_pointed-next-requires c = record { r_bound = omega arith; r_in_bounds = omega (arith, c.requires, long c.args.n c.args.end, c.put_digits-point.ensures.behind, c.put_digits-point.auto.text) }

pub bounds-text-next : goal.bounds-text-next
bounds-text-next c = omega (arith, c.requires, long c.args.n c.args.end, c.put_digits-point.ensures.behind, c.put_digits-point.auto.text, c.put_pointed-next.ensures.behind, c.put_pointed-next.auto.text)

pub overflow_add-result : goal.overflow_add-result
overflow_add-result c = omega (arith, c.requires, c.well_formed, long c.args.n c.args.end, c.put_digits-point.ensures.behind, c.put_pointed-next.ensures.behind)

pub returns : goal.returns
unfolding size_text
returns c = put_byte c.args.end (put_join c.put_digits-point.ensures c.put_pointed-next.ensures)
