-- What the definitions of lines that set a measure come to, over plain values. Assumes nothing.
use Prim.Native.Nat.{ℕ}
use mathlib.Core.Path.{◌≡◌, refl}
use borrow.Author.Tests.{ne_eqb}
use lib.IntN.{ℤ}
use Rattle.math.specs.Fixed.{mul_fix}
use Rattle.graphics.specs.declared.Measures.{Measures}
use Rattle.line_sizes.specs.Sizes.{single_width_at, sized_by}

-- an opcode that none of the numbers before is
pub other_size :
    (m : Measures) (op : ℕ) {word word' scale w w' : ℤ} {r : Measures} → (op ≡ 0x1A → ⊥) → (op ≡ 0x1D → ⊥) → (op ≡ 0x1E → ⊥) → word' ≡ word → scale ≡ m.scale → w' ≡ w → w ≡ mul_fix word' scale →
    r ≡ single_width_at m w' → r ≡ sized_by m op word
unfolding sized_by
other_size m op a b c eword escale ew' ew er = rw (ne_eqb op 0x1A a, ne_eqb op 0x1D b, ne_eqb op 0x1E c, er, ew', ew, eword, escale) refl
