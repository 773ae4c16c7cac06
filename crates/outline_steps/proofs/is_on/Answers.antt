use Prim.Native.Nat.{ℕ}
use mathlib.Core.Path.{sym, ap}
use Rattle.flags.specs.Flag.{has_any}
use Rattle.zone.proofs.Cases.{get_d_out}
use Rattle.outline_steps.proofs.is_on.Goals as goal

-- src/lib.rt:95:1
pub returns-else-i-flags : goal.returns-else-i-flags
returns-else-i-flags c = let a = c.args in sym (ap (λ (f : ℕ). has_any f 1) (get_d_out a.flags.now a.at 0 c.if-i-flags.false))
