-- What the definitions of lines that set the state come to, over plain values. Assumes nothing.
use Prim.Native.Nat.{ℕ}
use mathlib.Core.List.{List, [], ◌∷◌}
use mathlib.Core.Path.{◌≡◌, refl}
use native.Mathlib.Omega.{arith}
use borrow.Author.Tests.{ne_eqb}
use lib.IntN.{ℤ, pos}
use lib.ListN.{get_or, length}
use Rattle.answer.specs.declared.Refusal.TheVariants.{Missing}
use Rattle.graphics.specs.State.{all_zones, rp2_at, with_pointers, with_references}
use Rattle.graphics.specs.declared.GraphicsState.{GraphicsState}
use Rattle.graphics.specs.declared.ZonePointer.{ZonePointer}
use Rattle.line.specs.Line.{refused_with}
use Rattle.line.specs.declared.Stepped.{Stepped}
use Rattle.round.specs.declared.RoundMode.TheVariants.{Off}
use Rattle.line_set.specs.Setters.{mode_by, on_operand, pointer_by, reference_by}

-- ---- an opcode that none of the numbers before is
module _ (op : ℕ) where
  pub other_mode : (op ≡ 0x18 → ⊥) → (op ≡ 0x19 → ⊥) → (op ≡ 0x3D → ⊥) → (op ≡ 0x7D → ⊥) → (op ≡ 0x7C → ⊥) → mode_by op ≡ Off
  unfolding mode_by
  other_mode a b c d e = rw (ne_eqb op 0x18 a, ne_eqb op 0x19 b, ne_eqb op 0x3D c, ne_eqb op 0x7D d, ne_eqb op 0x7C e)

  pub other_reference : (s : GraphicsState) (at : ℕ) → (op ≡ 0x10 → ⊥) → (op ≡ 0x11 → ⊥) → reference_by s op at ≡ with_references s (rp2_at s.references at)
  unfolding reference_by
  other_reference s at a b = rw (ne_eqb op 0x10 a, ne_eqb op 0x11 b)

  pub other_pointer : (s : GraphicsState) (zone : ZonePointer) → (op ≡ 0x13 → ⊥) → (op ≡ 0x14 → ⊥) → (op ≡ 0x15 → ⊥)
      → pointer_by s op zone ≡ with_pointers s (all_zones zone)
  unfolding pointer_by
  other_pointer s zone a b c = rw (ne_eqb op 0x13 a, ne_eqb op 0x14 b, ne_eqb op 0x15 c)

-- ---- a line's one operand
pub no_operand : (s : GraphicsState) (f : ℤ → Stepped) (words : List ℤ) → length words ≡ 0 → on_operand s f words ≡ refused_with s Missing
no_operand s f [] e = refl
no_operand s f (word ∷ words) e = absurd (omega (arith, e))

pub an_operand : (s : GraphicsState) (f : ℤ → Stepped) (words : List ℤ) → (length words ≡ 0 → ⊥) → on_operand s f words ≡ f (get_or words 0 (pos 0))
an_operand s f [] e = absurd (e refl)
an_operand s f (word ∷ words) e = refl
