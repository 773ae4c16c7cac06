-- What the things that a line does leave, an opcode's line leaves, if the lines that set the state, ISECT and IUP do: over the table of opcodes. And the laws of lengths and of the
-- state test. Assumes nothing.
use Prim.Native.Nat.{ℕ}
use mathlib.Core.Bool.{true}
use mathlib.Core.List.{List, [], ◌∷◌}
use mathlib.Core.Path.{◌≡◌}
use lib.IntN.{ℤ}
use Rattle.int.specs.Word.{index_of}
use Rattle.line_isect.specs.Isect.{isect_of}
use Rattle.line_iup.specs.Iup.{iup_line_of}
use Rattle.opcodes.specs.Table.{line_of, row_of, rows}
use Rattle.words.proofs.Widths.{Every}
use Rattle.words.proofs.Widths.Every.{no_word, one_word}
use Rattle.line.specs.World.{Alike, Fixed, World}
use Rattle.laws_lines.proofs.Kept.{Kept}
use Rattle.laws_lines.proofs.StillUsable.{StillUsable}
use Rattle.laws_lines.proofs.AllRows.{Has, all_rows}
use Rattle.laws_lines.proofs.Lengths.{in_state_kept, isect_kept, iup_kept, kept, stays_kept}
use Rattle.laws_lines.proofs.Rows.{row_has, within}
use Rattle.laws_lines.proofs.Sets.{Sets, any_state}
use Rattle.laws_lines.proofs.Usable.{isect_usable, iup_usable, sets_usable, stays_usable}
use Rattle.laws_lines.proofs.Stays.{Stays}

-- `Word` is asked of the operands, `Given` of the world before the line
module _ (Word : ℤ → Type 0) (Refers : ℕ → Type 0) (refers : (z : ℤ) → Word z → Refers (index_of z)) (Given : ℕ → Fixed → World → Type 0) (P : World → World → Type 0) where
  module _ (start : (op : ℕ) (f : Fixed) (w : World) → Given op f w → P w w) (stays : (op : ℕ) (f : Fixed) (w : World) → Given op f w → Stays f w.state Refers (P w))
      (sets : (op : ℕ) (f : Fixed) (operands : List ℤ) (w : World) → Given op f w → Every Word operands → Sets op operands w (P w))
      (isect : (op : ℕ) → within 0x0F 0x0F op ≡ true → Has Word Refers refers Given P op isect_of) (iup : (op : ℕ) → within 0x30 0x31 op ≡ true → Has Word Refers refers Given P op iup_line_of) where
    pub line_leaves : (op : ℕ) → Has Word Refers refers Given P op line_of
    unfolding line_of row_of
    line_leaves op = row_has (Has Word Refers refers Given P) rows (all_rows Word Refers refers Given P start stays sets isect iup) op

-- nothing is asked of a reference
pub no_question : (operands : List ℤ) → Every (λ (z : ℤ). Unit {0}) operands
no_question [] = no_word
no_question (z ∷ more) = one_word tt (no_question more)

-- ---- lengths
pub line_kept : (f : Fixed) (op : ℕ) (operands : List ℤ) (w : World) → Alike f w → Kept w (line_of f op operands w).world
line_kept f op operands w alike =
    line_leaves (λ _. Unit {0}) (λ _. Unit {0}) (λ z u. u) (λ op f w. Alike f w) Kept (λ op f w g. kept w) (λ op f w g. stays_kept w f w.state)
    (λ op f operands w g o. any_state op operands w (λ s. in_state_kept w w s (kept w)))
    (λ op h f operands w g o. isect_kept f op operands w)
    (λ op h f operands w g o. iup_kept f op operands w g)
    op f operands w alike (no_question operands)

-- ---- the state test
pub line_usable : (f : Fixed) (op : ℕ) (operands : List ℤ) (w : World) → StillUsable w (line_of f op operands w).world
line_usable f op operands w =
    line_leaves (λ _. Unit {0}) (λ _. Unit {0}) (λ z u. u) (λ op f w. Unit {0}) StillUsable (λ op f w g h. h) (λ op f w g. stays_usable f w)
    (λ op f operands w g o. sets_usable op operands w)
    (λ op h f operands w g o. isect_usable f op operands w)
    (λ op h f operands w g o. iup_usable f op operands w)
    op f operands w tt (no_question operands)
