-- `iup::last_touched` meets its contract. The invariant: the last touched point of all is that of the first i. Assumes nothing.
use mathlib.Core.Path.{◌≡◌, sym, ◌∙◌}
use Prim.Native.Nat.{◌+◌, ◌-◌}
use native.Mathlib.Omega.{arith}
use Rattle.iup.proofs.Search.{last_hit, last_miss}
use Rattle.iup.proofs.last_touched.Goals as goal

pub returns-then-has_any : goal.returns-then-has_any
returns-then-has_any c = let v = c.loop-i in let a = c.args in
    let here : v.i - 1 + 1 ≡ v.i = omega arith in
    here ∙ last_hit a.mask a.flags.now v.i (omega arith) (omega arith) (sym c.has_any.ensures ∙ c.if-has_any.true) ∙ v.invariant

pub loop-i-preserved : goal.loop-i-preserved
loop-i-preserved c = let v = c.loop-i in let a = c.args in
    last_miss a.mask a.flags.now v.i (omega arith) (omega arith) (sym c.has_any.ensures ∙ c.if-has_any.false) ∙ v.invariant
