-- `normalize::near_length` meets its contract: by whether the numbers moved up. Assumes nothing.
use mathlib.Core.Path.{◌∙◌}
use Prim.Native.Nat.{◌^◌}
use native.Mathlib.Omega.{arith}
use Rattle.normalize.proofs.Seen.{anew, moved_down, estimate_le}
use Rattle.normalize.proofs.near_length.Goals as goal

pub returns-then-up-gt0 : goal.returns-then-up-gt0
returns-then-up-gt0 c = let s = c in let a = s.args in
    (c.estimate_of.ensures ∙ anew a.up a.down a.len a.x a.y c.if-up-gt0.true, omega (arith, c.estimate_of.ensures, estimate_le a.x a.y (2 ^ 49) s.requires.1.1.1.0 s.requires.1.1.1.1))

pub returns-else-up-gt0 : goal.returns-else-up-gt0
returns-else-up-gt0 c = let s = c in let a = s.args in
    (c.shift_by.ensures.0 ∙ moved_down a.up a.down a.len a.x a.y c.if-up-gt0.false, omega (arith, c.shift_by.ensures.1))
