-- `line_span::touch_run` meets its contract. The invariant: what is left to touch of the flags, the part put back, is the whole. Assumes nothing.
use Prim.Native.Nat.{◌+◌, ◌-◌}
use mathlib.Core.Path.{◌≡◌}
use borrow.Rule.Slice.PartMut.{put_mid}
use Rattle.line_span.specs.Steps.{touched_run}
use Rattle.line_span.proofs.touch_run.Given as goal

abbrev pub invariant-loop-flag : goal.invariant-loop-flag
invariant-loop-flag l = touched_run l.bits (l.start + l.flag-index) l.end (put_mid l.start (l.end - l.start) l.fn.flags l.flag-items) ≡ touched_run l.bits l.start l.end l.fn.flags
