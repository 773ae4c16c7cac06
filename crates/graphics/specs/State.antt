-- The graphics state: OpenType, "The graphics state" (tt_graphics_state) with its defaults, and the instructions SVTCA, SPVTCA, SFVTCA, RTG and
-- its kin, SROUND, S45ROUND, SLOOP, SRP0 to SRP2, SZP0 to SZP2 and SZPS, each of which sets a part of one group. The facts are those that FreeType
-- 2.13.3 keeps beside it (ttinterp.c: backward_compatibility, pedantic_hinting, iupx_called, iupy_called), and native ClearType x, which the host
-- gives. Document 01 gives a vector's range and the state that a glyph starts with. Assumes nothing.
use Rattle.std.specs.Prelude.{Bool, true, false, ◌&&◌, ℕ, suc, min, ℤ, pos, neg_ℤ}
use Rattle.std.specs.Int.Signed.{le_z}
use Rattle.round.specs.Round.{usable}
use Rattle.round.specs.Round.{fresh as freshRound}
use Rattle.round.specs.declared.RoundMode.{RoundMode}
use Rattle.round.specs.declared.RoundState.{RoundState}
use Rattle.graphics.specs.declared.Vector.{Vector}
use Rattle.graphics.specs.declared.Vectors.{Vectors}
use Rattle.graphics.specs.declared.ZonePointer.{ZonePointer}
use Rattle.graphics.specs.declared.ZonePointer.TheVariants.{Twilight, Glyph}
use Rattle.graphics.specs.declared.References.{References}
use Rattle.graphics.specs.declared.ZonePointers.{ZonePointers}
use Rattle.graphics.specs.declared.Facts.{Facts}
use Rattle.graphics.specs.declared.Measures.{Measures}
use Rattle.graphics.specs.declared.Tallies.{Tallies}
use Rattle.graphics.specs.declared.GraphicsState.{GraphicsState}

-- ---- the parts
-- 1 as a 2.14 number
abbrev pub unit : ℤ
unit = pos 16384

abbrev pub x_axis : Vector
x_axis = record { x = unit; y = pos 0 }

abbrev pub y_axis : Vector
y_axis = record { x = pos 0; y = unit }

-- SVTCA; SPVTCA; SFVTCA
abbrev pub all_along : Vector → Vectors
all_along v = record { projection = v; dual = v; freedom = v }

abbrev pub measured_along : Vectors → Vector → Vectors
measured_along vs v = record { projection = v; dual = v; freedom = vs.freedom }

abbrev pub moved_along : Vectors → Vector → Vectors
moved_along vs v = record { projection = vs.projection; dual = vs.dual; freedom = v }

-- RTG and its kin: the mode alone
abbrev pub in_mode : RoundState → RoundMode → RoundState
in_mode r m = record { mode = m; threshold = r.threshold; phase = r.phase; period = r.period }

-- SRP0; SRP1; SRP2
abbrev pub rp0_at : References → ℕ → References
rp0_at p at = record { rp0 = at; rp1 = p.rp1; rp2 = p.rp2 }

abbrev pub rp1_at : References → ℕ → References
rp1_at p at = record { rp0 = p.rp0; rp1 = at; rp2 = p.rp2 }

abbrev pub rp2_at : References → ℕ → References
rp2_at p at = record { rp0 = p.rp0; rp1 = p.rp1; rp2 = at }

abbrev pub is_twilight : ZonePointer → Bool
is_twilight Twilight = true
is_twilight Glyph = false

-- SZPS
abbrev pub all_zones : ZonePointer → ZonePointers
all_zones zone = record { zp0 = zone; zp1 = zone; zp2 = zone }

-- SZP0; SZP1; SZP2
abbrev pub zp0_in : ZonePointers → ZonePointer → ZonePointers
zp0_in p zone = record { zp0 = zone; zp1 = p.zp1; zp2 = p.zp2 }

abbrev pub zp1_in : ZonePointers → ZonePointer → ZonePointers
zp1_in p zone = record { zp0 = p.zp0; zp1 = zone; zp2 = p.zp2 }

abbrev pub zp2_in : ZonePointers → ZonePointer → ZonePointers
zp2_in p zone = record { zp0 = p.zp0; zp1 = p.zp1; zp2 = zone }

abbrev pub all_no : Facts
all_no = record { backward_compatibility = false; pedantic = false; native_clear_type_x = false; did_iup_x = false; did_iup_y = false }

-- the marks that IUP sets
abbrev pub with_marks : Facts → Bool → Bool → Facts
with_marks f x y = record { backward_compatibility = f.backward_compatibility; pedantic = f.pedantic; native_clear_type_x = f.native_clear_type_x; did_iup_x = x; did_iup_y = y }

abbrev pub marked_x : Facts → Facts
marked_x f = with_marks f true f.did_iup_y

abbrev pub marked_y : Facts → Facts
marked_y f = with_marks f f.did_iup_x true

-- whether y is held fast too
abbrev pub past_both_iups : Facts → Bool
past_both_iups f = f.backward_compatibility && f.did_iup_x && f.did_iup_y

-- ---- the state test: answer 3 where it says no
abbrev pub in_range : ℤ → Bool
in_range z = le_z (neg_ℤ unit) z && le_z z unit

unfoldable pub vector_in_range : Vector → Bool
vector_in_range v = in_range v.x && in_range v.y

unfoldable pub vectors_in_range : Vectors → Bool
vectors_in_range v = vector_in_range v.projection && vector_in_range v.dual && vector_in_range v.freedom

unfoldable pub usable_state : GraphicsState → Bool
usable_state s = vectors_in_range s.vectors && usable s.round

-- ---- the state that a glyph starts with
-- "older ones read as 64, 0, 0, yes, 0": document 02, K7
abbrev pub fresh_measures : Measures
fresh_measures = record { cut_in = pos 68; minimum_distance = pos 64; single_width = pos 0; single_width_cut_in = pos 0; auto_flip = true; scale = pos 0 }

abbrev pub fresh_state : GraphicsState
fresh_state = record {
  vectors = all_along x_axis;
  round = freshRound;
  references = record { rp0 = 0; rp1 = 0; rp2 = 0 };
  loop_counter = 1;
  pointers = all_zones Glyph;
  measures = fresh_measures;
  facts = all_no;
  tallies = record { wrapped_roundings = 0; last_pushed = pos 0; pushes = 0 };
}

-- ---- one group set, every other kept
abbrev pub with_vectors : GraphicsState → Vectors → GraphicsState
with_vectors s v = record { vectors = v; round = s.round; references = s.references; loop_counter = s.loop_counter; pointers = s.pointers; measures = s.measures; facts = s.facts; tallies = s.tallies }

abbrev pub with_round : GraphicsState → RoundState → GraphicsState
with_round s r = record { vectors = s.vectors; round = r; references = s.references; loop_counter = s.loop_counter; pointers = s.pointers; measures = s.measures; facts = s.facts; tallies = s.tallies }

abbrev pub with_references : GraphicsState → References → GraphicsState
with_references s p = record { vectors = s.vectors; round = s.round; references = p; loop_counter = s.loop_counter; pointers = s.pointers; measures = s.measures; facts = s.facts; tallies = s.tallies }

abbrev pub with_loop_counter : GraphicsState → ℕ → GraphicsState
with_loop_counter s count = record { vectors = s.vectors; round = s.round; references = s.references; loop_counter = count; pointers = s.pointers; measures = s.measures; facts = s.facts; tallies = s.tallies }

abbrev pub with_pointers : GraphicsState → ZonePointers → GraphicsState
with_pointers s p = record { vectors = s.vectors; round = s.round; references = s.references; loop_counter = s.loop_counter; pointers = p; measures = s.measures; facts = s.facts; tallies = s.tallies }

abbrev pub with_facts : GraphicsState → Facts → GraphicsState
with_facts s f = record { vectors = s.vectors; round = s.round; references = s.references; loop_counter = s.loop_counter; pointers = s.pointers; measures = s.measures; facts = f; tallies = s.tallies }

abbrev pub with_tallies : GraphicsState → Tallies → GraphicsState
with_tallies s t = record { vectors = s.vectors; round = s.round; references = s.references; loop_counter = s.loop_counter; pointers = s.pointers; measures = s.measures; facts = s.facts; tallies = t }

-- ---- document 02, K5: a rounding that went past 32 bits is counted, as far as 4,294,967,295
abbrev pub one_more : ℕ → ℕ
one_more n = min (suc n) 4294967295

abbrev pub counted_in : Bool → Tallies → Tallies
counted_in false t = t
counted_in true t = record { wrapped_roundings = one_more t.wrapped_roundings; last_pushed = t.last_pushed; pushes = t.pushes }

unfoldable pub with_rounding : Bool → GraphicsState → GraphicsState
with_rounding wrapped s = with_tallies s (counted_in wrapped s.tallies)

-- ---- document 02, K7: a value pushed is the last one, and counted as far
abbrev pub pushed_on : ℤ → Tallies → Tallies
pushed_on value t = record { wrapped_roundings = t.wrapped_roundings; last_pushed = value; pushes = one_more t.pushes }

unfoldable pub with_push : ℤ → GraphicsState → GraphicsState
with_push value s = with_tallies s (pushed_on value s.tallies)
