-- `zone::untouch` meets its contract: by the test of the index, and by what `without_bits` ensures. Assumes nothing.
use mathlib.Core.Path.{ap, ◌∙◌}
use Prim.Native.Nat.{ℕ}
use lib.ListN.{get_or, set}
use Rattle.flags.specs.Flag.{cleared, touch_bits}
use Rattle.zone.proofs.Cases.{marked_in, marked_out}
use Rattle.zone.proofs.untouch.Goals as goal

pub returns-then-flags-i : goal.returns-then-flags-i
returns-then-flags-i c = let a = c.args in marked_out (λ (flag : ℕ). cleared flag (touch_bits a.axis)) a.flags.now a.at c.if-flags-i.true

pub returns : goal.returns
returns c = let t = c in let a = t.args in
    marked_in (λ (flag : ℕ). cleared flag (touch_bits a.axis)) a.flags.now a.at t.if-flags-i.false
    (ap (set a.flags.now a.at) (c.without_bits.ensures ∙ ap (cleared (get_or a.flags.now a.at 0)) t.touch_bits.ensures))
