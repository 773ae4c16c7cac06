-- The steps that a line is made of. A step that can refuse the line is given the rest of it, which it hands what it found: a line's definition
-- reads downward in the order of its steps, and every refusal leaves the world as it was at that step. Document 01, "A sheet and its lines" (a missing
-- operand is answer 6), and FreeType 2.13.3, ttinterp.c (Direct_Move). Assumes nothing.
use Rattle.std.specs.Prelude.{ℕ, suc, zero, Bool, cond, List, [], ◌∷◌, ltb, ℤ, pos, get_or, length, set, ⊤, Result, Ok, Err}
use Rattle.answer.specs.declared.Refusal.TheVariants.{ControlValue, Missing}
use Rattle.answer.specs.declared.Refusal.{Refusal}
use Rattle.graphics.specs.State.{rp0_at, rp1_at, with_loop_counter, with_references, with_rounding}
use Rattle.graphics.specs.declared.GraphicsState.{GraphicsState}
use Rattle.graphics.specs.declared.Vector.{Vector}
use Rattle.graphics.specs.declared.ZonePointer.TheVariants.{Glyph, Twilight}
use Rattle.graphics.specs.declared.ZonePointer.{ZonePointer}
use Rattle.int.specs.Word.{index_of}
use Rattle.line.specs.declared.Stepped.{Stepped}
use Rattle.moves.specs.Apply.{BothMoved, apply_in}
use Rattle.moves.specs.Displacement.{displaced_in, reference_of}
use Rattle.moves.specs.Move.{is_idle, move_of}
use Rattle.moves.specs.declared.Displacement.{Displacement}
use Rattle.moves.specs.declared.Move.{Move}
use Rattle.line.specs.Places.{fetch_in}
use Rattle.line.specs.World.{Fixed, Lined, World, lined, world}
use Rattle.round.specs.declared.Tracked.{Tracked}
use Rattle.zone.specs.Zone.{Marked}

-- ---- a line's end
abbrev pub done_in : World → Lined
done_in w = record { call = Ok tt; world = w }

abbrev pub refused_in : World → Refusal → Lined
refused_in w why = record { call = Err why; world = w }

-- refused if pedantic, else passed over
unfoldable pub passed_over : World → Refusal → Lined
passed_over w why = cond w.state.facts.pedantic (refused_in w why) (done_in w)

-- ---- the state
abbrev pub in_state : World → GraphicsState → World
in_state w s = world s w.gx w.gy w.gflags w.tox w.toy w.tx w.ty w.tflags

-- the world after a function that is lent no list
abbrev pub into : World → Stepped → Lined
into w r = lined r w.gx w.gy w.gflags w.tox w.toy w.tx w.ty w.tflags

-- rp0 and rp1 set
abbrev pub both_at : ℕ → GraphicsState → GraphicsState
both_at at s = with_references s (rp1_at (rp0_at s.references at) at)

abbrev pub on_both : ℕ → World → World
on_both at w = in_state w (both_at at w.state)

abbrev pub rounded_in : Bool → World → World
rounded_in wrapped w = in_state w (with_rounding wrapped w.state)

-- ---- operands, first popped first
unfoldable pub one : List ℤ → World → (ℤ → Lined) → Lined
one [] w rest = refused_in w Missing
one (a ∷ _) w rest = rest a

unfoldable pub two : List ℤ → World → (ℤ → ℤ → Lined) → Lined
two [] w rest = refused_in w Missing
two (_ ∷ []) w rest = refused_in w Missing
two (a ∷ b ∷ _) w rest = rest a b

unfoldable pub five : List ℤ → World → (ℤ → ℤ → ℤ → ℤ → ℤ → Lined) → Lined
five [] w rest = refused_in w Missing
five (_ ∷ []) w rest = refused_in w Missing
five (_ ∷ _ ∷ []) w rest = refused_in w Missing
five (_ ∷ _ ∷ _ ∷ []) w rest = refused_in w Missing
five (_ ∷ _ ∷ _ ∷ _ ∷ []) w rest = refused_in w Missing
five (a ∷ b ∷ c ∷ d ∷ e ∷ _) w rest = rest a b c d e

-- the first, and those behind it
unfoldable pub first : List ℤ → World → (ℤ → List ℤ → Lined) → Lined
first [] w rest = refused_in w Missing
first (a ∷ more) w rest = rest a more

-- ---- control values
unfoldable pub control_at : Fixed → ℕ → World → (ℤ → Lined) → Lined
control_at f entry w rest =
    cond (ltb entry (length f.controls)) (rest (get_or f.controls entry (pos 0))) (refused_in w (ControlValue entry))

-- ---- points
abbrev pub by_fetched : (Refusal → Lined) → (Vector → Lined) → Result Vector Refusal → Lined
by_fetched out rest (Ok place) = rest place
by_fetched out rest (Err why) = out why

-- a point's place, or what the line does without
unfoldable pub point_or : ZonePointer → ℕ → World → (Refusal → Lined) → (Vector → Lined) → Lined
point_or zone at w out rest = by_fetched out rest (fetch_in at w.gx w.gy w.tx w.ty zone)

-- a point's place; outside the line is refused
abbrev pub point_in : ZonePointer → ℕ → World → (Vector → Lined) → Lined
point_in zone at w rest = point_or zone at w (refused_in w) rest

-- the same of a point that need only be there
abbrev pub there_or : ZonePointer → ℕ → World → (Refusal → Lined) → Lined → Lined
there_or zone at w out rest = point_or zone at w out λ _. rest

-- a twilight point put somewhere, its original too; a glyph's point is left, and so is one outside
unfoldable pub made_in : ℕ → Vector → World → ZonePointer → World
made_in at place w Glyph = w
made_in at place w Twilight =
    world w.state w.gx w.gy w.gflags (set w.tox at place.x) (set w.toy at place.y) (set w.tx at place.x)
    (set w.ty at place.y)
    w.tflags

-- ---- moves
abbrev pub with_points : World → BothMoved → World
with_points w m = world w.state m.gx m.gy m.gflags w.tox w.toy m.tx m.ty m.tflags

abbrev pub by_call : World → (World → Lined) → Result ⊤ Refusal → Lined
by_call w rest (Ok tt) = rest w
by_call w rest (Err why) = refused_in w why

abbrev pub after_move : World → (World → Lined) → BothMoved → Lined
after_move w rest m = by_call (with_points w m) rest m.call

-- a move laid on a point; outside the line is refused
unfoldable pub laid_in : ZonePointer → Move → ℕ → World → (World → Lined) → Lined
laid_in zone m at w rest = after_move w rest (apply_in m at w.gx w.gy w.gflags w.tx w.ty w.tflags zone)

-- a point moved by a distance, and touched
unfoldable pub move_in : ZonePointer → ℤ → ℕ → World → (World → Lined) → Lined
move_in zone distance at w rest = laid_in zone (move_of w.state.vectors w.state.facts distance) at w rest

-- a point moved by a distance that comes of a rounding, which is counted where it went past 32 bits: document 02, K5
unfoldable pub rounded_move_in : ZonePointer → Tracked → ℕ → World → (World → Lined) → Lined
rounded_move_in zone distance at w rest = move_in zone distance.word at w λ moved. rest (rounded_in distance.wrapped moved)

-- ---- flags
-- what a call over the glyph's flags said and left
abbrev pub flags_in : World → Marked → Lined
flags_in w m = record { call = m.call; world = world w.state w.gx w.gy m.flags w.tox w.toy w.tx w.ty w.tflags }

-- ---- the reference point of SHP, SHC and SHZ
abbrev pub by_displaced : World → (Displacement → Lined) → Result Displacement Refusal → Lined
by_displaced w rest (Ok d) = rest d
by_displaced w rest (Err why) = refused_in w why

-- how far it was moved: an odd opcode's is rp1 in zp0, an even one's rp2 in zp1
abbrev pub reference_moved : Fixed → ℕ → World → Result Displacement Refusal
reference_moved f opcode w =
    let p = reference_of w.state opcode in
    displaced_in w.state.vectors p f.gox f.goy w.gx w.gy w.tox w.toy w.tx w.ty p.zone

unfoldable pub reference_in : Fixed → ℕ → World → (Displacement → Lined) → Lined
reference_in f opcode w rest = by_displaced w rest (reference_moved f opcode w)

-- ---- loops
-- as many steps as the counter says, each on the next operand; the steps before a refusal stay done
unfoldable pub each_in : (ℤ → World → Lined) → ℕ → List ℤ → World → Lined
each_in step zero operands w = done_in w
each_in step (suc n) [] w = refused_in w Missing
each_in step (suc n) (z ∷ more) w = by_call (step z w).world (each_in step n more) (step z w).call

-- the counter is 1 afterwards, refused or not
abbrev pub looped : List ℤ → World → (ℤ → World → Lined) → Lined
looped operands w step =
    let l = each_in step w.state.loop_counter operands w in
    record { call = l.call; world = in_state l.world (with_loop_counter l.world.state 1) }

-- ---- points of zp2, each shifted by one move
-- a move that does nothing looks at no point
unfoldable pub shift_point : Move → ℤ → World → Lined
shift_point m point w = cond (is_idle m) (done_in w) (laid_in w.state.pointers.zp2 m (index_of point) w done_in)
