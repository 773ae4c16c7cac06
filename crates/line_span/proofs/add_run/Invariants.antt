-- `line_span::add_run` meets its contract. The invariant: what is left to move of the list, the part put back, is the whole. Assumes nothing.
use Prim.Native.Nat.{◌+◌, ◌-◌}
use mathlib.Core.Bool.{true}
use mathlib.Core.Path.{◌≡◌}
use borrow.Rule.Slice.PartMut.{put_mid}
use Rattle.line_span.specs.Steps.{moved_run}
use Rattle.line_span.proofs.add_run.Given as goal

abbrev pub invariant-loop-x : goal.invariant-loop-x
invariant-loop-x l = moved_run true l.by (l.start + l.x-index) l.end (put_mid l.start (l.end - l.start) l.fn.list l.x-items) ≡ moved_run true l.by l.start l.end l.fn.list
