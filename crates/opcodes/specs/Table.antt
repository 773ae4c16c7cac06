-- The table of opcodes: what each opcode's line takes, and what it does. Document 01, "A sheet and its lines", and document 02, K1 (0x34 to 0x38, 0x81,
-- 0x82), K2 (0x76, 0x77), K7 (0x46, 0x47, 0x49, 0x4A, from 0xC0 on) and K14 (0x27, 0x29, 0x39); the lines that turn a vector (0x06 to 0x0B, 0x0E, 0x86,
-- 0x87) and those that set a measure (0x1A, 0x1D to 0x1F, 0x4D, 0x4E) by the OpenType instruction set. Assumes nothing.
use Rattle.std.specs.Prelude.{ℕ, suc, zero, Bool, ◌&&◌, cond, List, [], ◌∷◌, leb, ℤ}
use Rattle.line_alignpts.specs.Alignpts.{alignpts_of}
use Rattle.line_alignrp.specs.Alignrp.{alignrp_of}
use Rattle.line_flip.specs.Flip.{flippt_of, fliprg_of}
use Rattle.line_ip.specs.Ip.{ip_of}
use Rattle.line_isect.specs.Isect.{isect_of}
use Rattle.line_iup.specs.Iup.{iup_line_of}
use Rattle.line_mdap.specs.Mdap.{mdap_of}
use Rattle.line_mdrp.specs.Mdrp.{mdrp_of}
use Rattle.line_measure.specs.Measure.{gc_of, md_of}
use Rattle.line_miap.specs.Miap.{miap_of}
use Rattle.line_mirp.specs.Mirp.{mirp_of}
use Rattle.line_msirp.specs.Msirp.{msirp_of}
use Rattle.line_set.specs.Setters.{set_of}
use Rattle.line_shc_shz.specs.Shc.{shc_of, shz_of}
use Rattle.line_shift.specs.Shift.{shp_of, shpix_of}
use Rattle.line_sizes.specs.Sizes.{sizes_of}
use Rattle.line_utp.specs.Utp.{utp_of}
use Rattle.line_vectors.specs.Vectors.{to_dual_line_of, to_line_of, vector_of}
use Rattle.line.specs.World.{Fixed, Lined, World}

-- ---- how many operands
pub data Takes : Type 0 where
  Exactly : ℕ → Takes
  AsLooped : Takes
  OneAndLooped : Takes
  Unknown : Takes

-- with this loop counter
abbrev pub operands_of : Takes → ℕ → ℕ
operands_of (Exactly n) counter = n
operands_of AsLooped counter = counter
operands_of OneAndLooped counter = suc counter
operands_of Unknown counter = 0

-- as the table of 256 numbers says it
abbrev pub unknown : ℕ
unknown = 255

abbrev pub table_entry : Takes → ℕ
table_entry (Exactly n) = n
table_entry AsLooped = 254
table_entry OneAndLooped = 253
table_entry Unknown = unknown

-- ---- the rows
abbrev pub Line : Type 0
Line = Fixed → ℕ → List ℤ → World → Lined

-- from the first opcode to the last
pub record Row : Type 0 where
  pub first : ℕ
  pub last : ℕ
  pub takes : Takes
  pub line : Line

abbrev pub row : ℕ → ℕ → Takes → Line → Row
row first last takes line = record { first = first; last = last; takes = takes; line = line }

abbrev pub rows : List Row
rows =
    row 0x00 0x05 (Exactly 0) set_of  -- SVTCA, SPVTCA, SFVTCA
    ∷ row 0x06 0x09 (Exactly 2) to_line_of  -- SPVTL, SFVTL
    ∷ row 0x0A 0x0B (Exactly 2) vector_of  -- SPVFS, SFVFS
    ∷ row 0x0E 0x0E (Exactly 0) vector_of  -- SFVTPV
    ∷ row 0x0F 0x0F (Exactly 5) isect_of  -- ISECT
    ∷ row 0x10 0x17 (Exactly 1) set_of  -- SRP0, SRP1, SRP2, SZP0, SZP1, SZP2, SZPS, SLOOP
    ∷ row 0x18 0x19 (Exactly 0) set_of  -- RTG, RTHG
    ∷ row 0x1A 0x1A (Exactly 1) sizes_of  -- SMD
    ∷ row 0x1D 0x1F (Exactly 1) sizes_of  -- SCVTCI, SSWCI, SSW
    ∷ row 0x27 0x27 (Exactly 2) alignpts_of  -- ALIGNPTS
    ∷ row 0x29 0x29 (Exactly 1) utp_of  -- UTP
    ∷ row 0x2E 0x2F (Exactly 1) mdap_of  -- MDAP
    ∷ row 0x30 0x31 (Exactly 0) iup_line_of  -- IUP
    ∷ row 0x32 0x33 AsLooped shp_of  -- SHP
    ∷ row 0x34 0x35 (Exactly 1) shc_of  -- SHC
    ∷ row 0x36 0x37 (Exactly 1) shz_of  -- SHZ
    ∷ row 0x38 0x38 OneAndLooped shpix_of  -- SHPIX
    ∷ row 0x39 0x39 AsLooped ip_of  -- IP
    ∷ row 0x3A 0x3B (Exactly 2) msirp_of  -- MSIRP
    ∷ row 0x3C 0x3C AsLooped alignrp_of  -- ALIGNRP
    ∷ row 0x3D 0x3D (Exactly 0) set_of  -- RTDG
    ∷ row 0x3E 0x3F (Exactly 2) miap_of  -- MIAP
    ∷ row 0x46 0x47 (Exactly 1) gc_of  -- GC
    ∷ row 0x49 0x4A (Exactly 2) md_of  -- MD
    ∷ row 0x4D 0x4E (Exactly 0) sizes_of  -- FLIPON, FLIPOFF
    ∷ row 0x76 0x77 (Exactly 1) set_of  -- SROUND, S45ROUND
    ∷ row 0x7A 0x7A (Exactly 0) set_of  -- ROFF
    ∷ row 0x7C 0x7D (Exactly 0) set_of  -- RUTG, RDTG
    ∷ row 0x80 0x80 AsLooped flippt_of  -- FLIPPT
    ∷ row 0x81 0x82 (Exactly 2) fliprg_of  -- FLIPRGON, FLIPRGOFF
    ∷ row 0x86 0x87 (Exactly 2) to_dual_line_of  -- SDPVTL
    ∷ row 0xC0 0xDF (Exactly 1) mdrp_of  -- MDRP
    ∷ row 0xE0 0xFF (Exactly 2) mirp_of  -- MIRP
    ∷ []

-- ---- an opcode's row
abbrev pub has : Row → ℕ → Bool
has r opcode = leb r.first opcode && leb opcode r.last

-- where no row has the opcode; its line is never done, since the opcode is refused before
abbrev pub no_row : Row
no_row = row 0 0 Unknown set_of

abbrev pub row_in : List Row → ℕ → Row
row_in [] opcode = no_row
row_in (r ∷ more) opcode = cond (has r opcode) r (row_in more opcode)

unfoldable pub row_of : ℕ → Row
row_of opcode = row_in rows opcode

unfoldable pub need_of : ℕ → ℕ
need_of opcode = table_entry (row_of opcode).takes

unfoldable pub line_of : Line
line_of f opcode operands w = (row_of opcode).line f opcode operands w

-- ---- the table of 256 numbers
abbrev pub needs_from : ℕ → ℕ → List ℕ
needs_from opcode zero = []
needs_from opcode (suc n) = need_of opcode ∷ needs_from (suc opcode) n

unfoldable pub needs_table : List ℕ
needs_table = needs_from 0 256
