-- What a kind says of an opcode: which line the table has for it, or among which opcodes it is. Nobody need believe this: `line_of` of the crate opcodes is what `perform` is held to.
-- Assumes nothing.
use Rattle.std.specs.Prelude.{ℕ, ◌≤◌, ◌<◌, List, ◌⊎◌, ◌≡◌, ℤ}
use Rattle.line_flip.specs.Flip.{flippt_of, fliprg_of}
use Rattle.line_isect.specs.Isect.{isect_of}
use Rattle.line_iup.specs.Iup.{iup_line_of}
use Rattle.line_set.specs.Setters.{set_of}
use Rattle.line_sizes.specs.Sizes.{sizes_of}
use Rattle.line_vectors.specs.Vectors.{turn_of}
use Rattle.line.specs.World.{Fixed, World}
use Rattle.opcodes.specs.Table.{Line, line_of}
use Rattle.dispatch.specs.declared.Kind.TheVariants.{Distance, Fliprg, Flippt, Isect, Iup, Measure, Point, Set, Shift, Size, Vector}
use Rattle.dispatch.specs.declared.Kind.{Kind}

abbrev pub Does : ℕ → Line → Type 0
Does opcode line = (f : Fixed) (operands : List ℤ) (w : World) → line f opcode operands w ≡ line_of f opcode operands w

unfoldable pub Named : ℕ → Kind → Type 0
Named opcode Isect = Does opcode isect_of
Named opcode Iup = Does opcode iup_line_of
Named opcode Shift = (0x32 ≤ opcode) × (opcode < 0x39)
Named opcode Distance = ((0x2E ≤ opcode) × (opcode < 0x30)) ⊎ (((0x3A ≤ opcode) × (opcode < 0x3D)) ⊎ ((0x3E ≤ opcode) × (opcode < 0x40)))
Named opcode Measure = ((0x46 ≤ opcode) × (opcode < 0x48)) ⊎ (((0x49 ≤ opcode) × (opcode < 0x4B)) ⊎ ((0xC0 ≤ opcode) × (opcode < 0x100)))
Named opcode Point = (opcode ≡ 0x27) ⊎ ((opcode ≡ 0x29) ⊎ (opcode ≡ 0x39))
Named opcode Vector = Does opcode turn_of
Named opcode Size = Does opcode sizes_of
Named opcode Flippt = Does opcode flippt_of
Named opcode Fliprg = Does opcode fliprg_of
Named opcode Set = Does opcode set_of
