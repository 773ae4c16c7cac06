-- The lines that set the measures and move no point: the OpenType instructions SMD, SCVTCI, SSWCI, SSW, FLIPON and FLIPOFF; FreeType 2.13.3's Ins_SMD and
-- its kin (ttinterp.c). SSW's operand is in font units, and is scaled; the others are 26.6 numbers and taken as they are. A missing operand is 6,
-- as document 01 has it. Assumes nothing.
use Rattle.std.specs.Prelude.{ℕ, List, Bool, cond, ℤ, leb, eqb}
use Rattle.math.specs.Fixed.{mul_fix}
use Rattle.graphics.specs.declared.GraphicsState.{GraphicsState}
use Rattle.graphics.specs.declared.Measures.{Measures}
use Rattle.line.specs.declared.Stepped.{Stepped}
use Rattle.line.specs.Line.{done_with}
use Rattle.line.specs.World.{Fixed, Lined, World}
use Rattle.line_steps.specs.Steps.{into}
use Rattle.line_set.specs.Setters.{on_operand}

-- ---- one measure set, every other kept
abbrev pub minimum_at : Measures → ℤ → Measures
minimum_at m word = record { cut_in = m.cut_in; minimum_distance = word; single_width = m.single_width; single_width_cut_in = m.single_width_cut_in; auto_flip = m.auto_flip; scale = m.scale }

abbrev pub cut_in_at : Measures → ℤ → Measures
cut_in_at m word = record { cut_in = word; minimum_distance = m.minimum_distance; single_width = m.single_width; single_width_cut_in = m.single_width_cut_in; auto_flip = m.auto_flip; scale = m.scale }

abbrev pub single_cut_in_at : Measures → ℤ → Measures
single_cut_in_at m word = record { cut_in = m.cut_in; minimum_distance = m.minimum_distance; single_width = m.single_width; single_width_cut_in = word; auto_flip = m.auto_flip; scale = m.scale }

abbrev pub single_width_at : Measures → ℤ → Measures
single_width_at m word = record { cut_in = m.cut_in; minimum_distance = m.minimum_distance; single_width = word; single_width_cut_in = m.single_width_cut_in; auto_flip = m.auto_flip; scale = m.scale }

abbrev pub flipping_at : Measures → Bool → Measures
flipping_at m on = record { cut_in = m.cut_in; minimum_distance = m.minimum_distance; single_width = m.single_width; single_width_cut_in = m.single_width_cut_in; auto_flip = on; scale = m.scale }

abbrev pub with_measures : GraphicsState → Measures → GraphicsState
with_measures s m = record { vectors = s.vectors; round = s.round; references = s.references; loop_counter = s.loop_counter; pointers = s.pointers; measures = m; facts = s.facts; tallies = s.tallies }

-- ---- the lines
-- 1A, 1D, 1E, 1F: SMD, SCVTCI, SSWCI, SSW
unfoldable pub sized_by : Measures → ℕ → ℤ → Measures
sized_by m op word =
    cond (eqb op 0x1A) (minimum_at m word)
    (cond (eqb op 0x1D) (cut_in_at m word) (cond (eqb op 0x1E) (single_cut_in_at m word) (single_width_at m (mul_fix word m.scale))))

unfoldable pub size_by : GraphicsState → ℕ → ℤ → GraphicsState
size_by s op word = with_measures s (sized_by s.measures op word)

-- 4D, 4E: FLIPON, FLIPOFF
unfoldable pub flip_by : GraphicsState → Bool → GraphicsState
flip_by s on = with_measures s (flipping_at s.measures on)

-- a line that sets a measure, by its opcode
unfoldable pub measure_by : GraphicsState → ℕ → List ℤ → Stepped
measure_by s op operands = cond (leb 0x4D op) (done_with (flip_by s (eqb op 0x4D))) (on_operand s (λ (word : ℤ). done_with (size_by s op word)) operands)

-- the same of a world, whose lists it leaves
unfoldable pub sizes_of : Fixed → ℕ → List ℤ → World → Lined
sizes_of f opcode operands w = into w (measure_by w.state opcode operands)
