-- `outline_print::put_refusal` meets its contract: the word, the number and a newline. Assumes nothing.
use mathlib.Core.List.{[], ◌∷◌}
use mathlib.Core.Path.{◌≡◌}
use Prim.Native.Nat.{ℕ, ◌+◌}
use native.Mathlib.Omega.{arith}
use lib.ListN.{length, length-append}
use Rattle.record_print.proofs.Puts.{put_byte, put_join}
use Rattle.record_print.specs.Text.{decimal}
use Rattle.outline_print.specs.Lines.{ended, refusal_line}
use Rattle.outline_print.proofs.put_refusal.Goals as goal

long : (n : ℕ) → length (refusal_line n) ≡ 8 + (length (decimal n) + 1)
long n = omega (arith, length-append (111 ∷ 117 ∷ 116 ∷ 108 ∷ 105 ∷ 110 ∷ 101 ∷ 32 ∷ []) (ended (decimal n) 10), length-append (decimal n) (10 ∷ []))

pub put_word-next-requires : goal.put_word-next-requires
put_word-next-requires c = omega (arith, c.requires, long c.args.number)

pub put_digits-end-requires : goal.put_digits-end-requires
put_digits-end-requires c = omega (arith, c.requires, long c.args.number, c.put_word-next.ensures.behind, c.put_word-next.auto.text)

pub bounds-text-end : goal.bounds-text-end
bounds-text-end c = omega (arith, c.requires, long c.args.number, c.put_word-next.ensures.behind, c.put_word-next.auto.text, c.put_digits-end.ensures.behind, c.put_digits-end.auto.text)

pub overflow_add-result : goal.overflow_add-result
overflow_add-result c = omega (arith, c.requires, c.well_formed, long c.args.number, c.put_word-next.ensures.behind, c.put_digits-end.ensures.behind)

pub returns : goal.returns
returns c = put_join c.put_word-next.ensures (put_byte 10 c.put_digits-end.ensures)
