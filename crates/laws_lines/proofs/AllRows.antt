-- What the things that a line does leave, the line of each row of the table of opcodes leaves, if the lines that set the state, ISECT and IUP do. Assumes nothing.
use Prim.Native.Nat.{ℕ}
use mathlib.Core.Bool.{true}
use mathlib.Core.List.{List}
use mathlib.Core.Path.{◌≡◌}
use lib.IntN.{ℤ}
use Rattle.int.specs.Word.{index_of}
use Rattle.line_isect.specs.Isect.{isect_of}
use Rattle.line_iup.specs.Iup.{iup_line_of}
use Rattle.line_set.specs.Setters.{set_of}
use Rattle.line_sizes.specs.Sizes.{sizes_of}
use Rattle.line_vectors.specs.Vectors.{vector_of}
use Rattle.opcodes.specs.Table.{Line, rows}
use Rattle.words.proofs.Widths.{Every}
use Rattle.words.proofs.Widths.Every.{no_word, one_word}
use Rattle.line.specs.World.{Fixed, World}
use Rattle.laws_lines.proofs.Rows.{RowsHave, within}
use Rattle.laws_lines.proofs.Rows.RowsHave.{◌▸◌, elsewhere}
use Rattle.laws_lines.proofs.Sets.{Sets, to_dual_line_stays, to_line_stays}
use Rattle.laws_lines.proofs.Stays.{Stays, alignpts_stays, alignrp_stays, flippt_stays, fliprg_stays, gc_stays, ip_stays, md_stays, mdap_stays, mdrp_stays, miap_stays, mirp_stays, msirp_stays, shc_stays, shp_stays, shpix_stays, shz_stays, utp_stays}

-- what holds of each word holds of each
every_of : {P Q : ℤ → Type 0} → ((z : ℤ) → P z → Q z) → {zs : List ℤ} → Every P zs → Every Q zs
every_of h no_word = no_word
every_of h (one_word {w} p f) = one_word (h w p) (every_of h f)

-- `Word` is asked of the operands, `Given` of the world before the line
module _ (Word : ℤ → Type 0) (Refers : ℕ → Type 0) (refers : (z : ℤ) → Word z → Refers (index_of z)) (Given : ℕ → Fixed → World → Type 0) (P : World → World → Type 0) where
  -- of a line, at an opcode
  abbrev pub Has : ℕ → Line → Type 0
  Has op line = (f : Fixed) (operands : List ℤ) (w : World) → Given op f w → Every Word operands → P w (line f op operands w).world

  module _ (start : (op : ℕ) (f : Fixed) (w : World) → Given op f w → P w w) (stays : (op : ℕ) (f : Fixed) (w : World) → Given op f w → Stays f w.state Refers (P w))
      (sets : (op : ℕ) (f : Fixed) (operands : List ℤ) (w : World) → Given op f w → Every Word operands → Sets op operands w (P w))
      (isect : (op : ℕ) → within 0x0F 0x0F op ≡ true → Has op isect_of) (iup : (op : ℕ) → within 0x30 0x31 op ≡ true → Has op iup_line_of) where
    set : (op : ℕ) → Has op set_of
    unfolding set_of
    set op f operands w g o = (sets op f operands w g o).by_setter

    size : (op : ℕ) → Has op sizes_of
    unfolding sizes_of
    size op f operands w g o = (sets op f operands w g o).by_size

    from_stack : (op : ℕ) → within 0x0A 0x0B op ≡ true → Has op vector_of
    unfolding vector_of
    from_stack op h f operands w g o = (sets op f operands w g o).from_stack h

    following : (op : ℕ) → within 0x0E 0x0E op ≡ true → Has op vector_of
    unfolding vector_of
    following op h f operands w g o = (sets op f operands w g o).following h

    pub all_rows : RowsHave Has rows
    all_rows =
        (λ op h. set op)
        ▸ (λ op h f operands w g o. to_line_stays op operands w f (sets op f operands w g o) (start op f w g) o h)
        ▸ from_stack
        ▸ following
        ▸ isect
        ▸ (λ op h. set op)
        ▸ (λ op h. set op)
        ▸ (λ op h. size op)
        ▸ (λ op h. size op)
        ▸ (λ op h f operands w g o. alignpts_stays f op operands w (stays op f w g) (start op f w g) (every_of refers o))
        ▸ (λ op h f operands w g o. utp_stays f op operands w (stays op f w g) (start op f w g) (every_of refers o))
        ▸ (λ op h f operands w g o. mdap_stays f op operands w (stays op f w g) (start op f w g) (every_of refers o))
        ▸ iup
        ▸ (λ op h f operands w g o. shp_stays f op operands w (stays op f w g) (start op f w g))
        ▸ (λ op h f operands w g o. shc_stays f op operands w (stays op f w g) (start op f w g))
        ▸ (λ op h f operands w g o. shz_stays f op operands w (stays op f w g) (start op f w g))
        ▸ (λ op h f operands w g o. shpix_stays f op operands w (stays op f w g) (start op f w g))
        ▸ (λ op h f operands w g o. ip_stays f op operands w (stays op f w g) (start op f w g))
        ▸ (λ op h f operands w g o. msirp_stays f op operands w (stays op f w g) (start op f w g) (every_of refers o))
        ▸ (λ op h f operands w g o. alignrp_stays f op operands w (stays op f w g) (start op f w g))
        ▸ (λ op h. set op)
        ▸ (λ op h f operands w g o. miap_stays f op operands w (stays op f w g) (start op f w g) (every_of refers o))
        ▸ (λ op h f operands w g o. gc_stays f op operands w (stays op f w g) (start op f w g) (every_of refers o))
        ▸ (λ op h f operands w g o. md_stays f op operands w (stays op f w g) (start op f w g) (every_of refers o))
        ▸ (λ op h. size op)
        ▸ (λ op h. set op)
        ▸ (λ op h. set op)
        ▸ (λ op h. set op)
        ▸ (λ op h f operands w g o. flippt_stays f op operands w (stays op f w g) (start op f w g))
        ▸ (λ op h f operands w g o. fliprg_stays f op operands w (stays op f w g) (start op f w g))
        ▸ (λ op h f operands w g o. to_dual_line_stays op operands w f (sets op f operands w g o) (start op f w g) o h)
        ▸ (λ op h f operands w g o. mdrp_stays f op operands w (stays op f w g) (start op f w g) (every_of refers o))
        ▸ (λ op h f operands w g o. mirp_stays f op operands w (stays op f w g) (start op f w g) (every_of refers o))
        ▸ elsewhere set
