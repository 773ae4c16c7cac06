-- `outline_print::put_tail` meets its contract: the digits that are left make the whole. Assumes nothing.
use Prim.Native.Nat.{◌-◌, ◌<◌}
use Rattle.outline_print.specs.Lines.{tail_by, tail_of}
use Rattle.outline_print.proofs.Putting.{Putting}
use Rattle.outline_print.proofs.put_tail.Given as goal

abbrev pub invariant-loop : goal.invariant-loop
invariant-loop l = (l.rest < 128) × Putting (tail_of l.r) l.at l.initial.text l.text l.next (tail_by (7 - l.counter) l.rest)
