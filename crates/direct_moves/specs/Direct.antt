-- The direct calls over a state and both zones: document 01, "Direct calls test in the order 2, 3, then 7 or 11". Nothing is changed where one
-- is refused, and the zone that isn't chosen is never changed. Assumes nothing.
use Rattle.answer.specs.declared.Refusal.{Refusal}
use Rattle.moves.specs.declared.Displacement.{Displacement}
use Rattle.std.specs.Prelude.{ℕ, Bool, true, false, ◌&&◌, cond, List, eqb, ℤ, length, ⊤, Result, Ok, Err}
use Rattle.answer.specs.declared.Refusal.TheVariants.{Sizes, State}
use Rattle.graphics.specs.State.{usable_state}
use Rattle.graphics.specs.declared.ZonePointer.{ZonePointer}
use Rattle.graphics.specs.declared.GraphicsState.{GraphicsState}
use Rattle.zone.specs.Sizes.{pair_fits, placed_fits}
use Rattle.moves.specs.Move.{move_of, original_move_of, zp2_move_of, is_idle}
use Rattle.moves.specs.Apply.{BothShifted, both_shifted, shift_in, BothMoved, both_moved, apply_in}
use Rattle.moves.specs.Displacement.{reference_of, displaced_in}
use Rattle.moves.specs.declared.Move.{Move}
use Rattle.moves.specs.declared.Reference.{Reference}

-- ---- the tests at entry
-- sizes first, then the state; Done where neither refuses
abbrev pub entry_by : Bool → Bool → Result ⊤ Refusal
entry_by true true = Ok tt
entry_by true false = Err State
entry_by false usable = Err Sizes

-- each zone's lists share one length within the limit
unfoldable pub pairs_fit : List ℤ → List ℤ → List ℤ → List ℤ → Bool
pairs_fit gx gy tx ty = pair_fits gx gy && pair_fits tx ty

unfoldable pub zones_fit : List ℤ → List ℤ → List ℕ → List ℤ → List ℤ → List ℕ → Bool
zones_fit gx gy gflags tx ty tflags = placed_fits gx gy gflags && placed_fits tx ty tflags

-- a zone's original and current places share that length too
unfoldable pub outline_fits : List ℤ → List ℤ → List ℤ → List ℤ → Bool
outline_fits ox oy cx cy = eqb (length ox) (length cx) && pair_fits ox oy && pair_fits cx cy

-- ---- move_original
module _ (gox goy tox toy : List ℤ) where
  abbrev pub shift_after : ZonePointer → Move → ℕ → Result ⊤ Refusal → BothShifted
  shift_after zone m at (Ok tt) = shift_in m at gox goy tox toy zone
  shift_after zone m at (Err why) = both_shifted (Err why) gox goy tox toy

  unfoldable pub try_move_original_of : GraphicsState → ZonePointer → ℕ → ℤ → BothShifted
  try_move_original_of s zone at distance =
      shift_after zone (original_move_of s.vectors distance) at (entry_by (pairs_fit gox goy tox toy) (usable_state s))

-- ---- move_point and move_zp2_point
module _ (gx gy : List ℤ) (gflags : List ℕ) (tx ty : List ℤ) (tflags : List ℕ) where
  abbrev pub move_after : ZonePointer → Move → ℕ → Result ⊤ Refusal → BothMoved
  move_after zone m at (Ok tt) = apply_in m at gx gy gflags tx ty tflags zone
  move_after zone m at (Err why) = both_moved (Err why) gx gy gflags tx ty tflags

  unfoldable pub try_move_point_of : GraphicsState → ZonePointer → ℕ → ℤ → BothMoved
  try_move_point_of s zone at distance =
      move_after zone (move_of s.vectors s.facts distance) at (entry_by (zones_fit gx gy gflags tx ty tflags) (usable_state s))

  -- an idle move looks at nothing
  abbrev pub zp2_after : ZonePointer → Move → ℕ → Result ⊤ Refusal → BothMoved
  zp2_after zone m at (Ok tt) = cond (is_idle m) (both_moved (Ok tt) gx gy gflags tx ty tflags) (apply_in m at gx gy gflags tx ty tflags zone)
  zp2_after zone m at (Err why) = both_moved (Err why) gx gy gflags tx ty tflags

  unfoldable pub try_move_zp2_of : GraphicsState → ℕ → ℤ → ℤ → Bool → BothMoved
  try_move_zp2_of s at dx dy touches =
      zp2_after s.pointers.zp2 (zp2_move_of s.vectors s.facts dx dy touches) at (entry_by (zones_fit gx gy gflags tx ty tflags) (usable_state s))

-- ---- point_displacement
module _ (gox goy gx gy tox toy tx ty : List ℤ) where
  abbrev pub displaced_after : GraphicsState → Reference → Result ⊤ Refusal → Result Displacement Refusal
  displaced_after s p (Ok tt) = displaced_in s.vectors p gox goy gx gy tox toy tx ty p.zone
  displaced_after s p (Err why) = Err why

  unfoldable pub try_displacement_of : GraphicsState → ℕ → Result Displacement Refusal
  try_displacement_of s opcode =
      displaced_after s (reference_of s opcode) (entry_by (outline_fits gox goy gx gy && outline_fits tox toy tx ty) (usable_state s))
