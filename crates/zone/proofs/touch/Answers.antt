-- `zone::touch` meets its contract: by the test of the index, and by what `or_at` ensures. Assumes nothing.
use mathlib.Core.Path.{ap, ◌∙◌}
use Prim.Native.Nat.{ℕ}
use lib.Bits.{bit_or}
use Rattle.flags.specs.Flag.{touch_bits}
use Rattle.zone.proofs.Cases.{marked_in, marked_out}
use Rattle.zone.specs.Zone.{or_at}
use Rattle.zone.proofs.touch.Goals as goal

pub returns-then-flags-i : goal.returns-then-flags-i
returns-then-flags-i c = let a = c.args in marked_out (λ (flag : ℕ). bit_or flag (touch_bits a.axis)) a.flags.now a.at c.if-flags-i.true

pub returns : goal.returns
returns c = let o = c in let a = o.args in
    marked_in (λ (flag : ℕ). bit_or flag (touch_bits a.axis)) a.flags.now a.at o.if-flags-i.false
    (o.or_at.ensures ∙ ap (or_at a.flags.now a.at) o.touch_bits.ensures)
