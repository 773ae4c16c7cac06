-- `zone::flip_on_curve` meets its contract: by the test of the index, and by what `flipped` ensures. Assumes nothing.
use mathlib.Core.Path.{ap}
use Prim.Native.Nat.{ℕ}
use lib.Bits.{bit_xor}
use lib.ListN.{set}
use Rattle.zone.proofs.Cases.{marked_in, marked_out}
use Rattle.zone.proofs.flip_on_curve.Goals as goal

pub returns-then-flags-i : goal.returns-then-flags-i
returns-then-flags-i c = let a = c.args in marked_out (λ (flag : ℕ). bit_xor flag 1) a.flags.now a.at c.if-flags-i.true

pub returns : goal.returns
returns c = let a = c.args in
    marked_in (λ (flag : ℕ). bit_xor flag 1) a.flags.now a.at c.if-flags-i.false (ap (set a.flags.now a.at) c.flipped.ensures)
