-- Moves from the state's numbers: FreeType 2.13.3, ttinterp.c (Direct_Move, Direct_Move_X, Direct_Move_Y, Direct_Move_Orig and its kin,
-- Move_Zp2_Point), on words that wrap. The Rust decides in two places. In docs/src's move_point a slanted move that is measured along a horizontal
-- projection vector, one whose y is 0, is made even under backward compatibility and past both IUPs; Direct_Move has no such exception
-- and never moves x under backward compatibility. And the freedom axis, which picks between Direct_Move and its special versions, is
-- projection.rs's. Assumes nothing.
use Rattle.std.specs.Prelude.{ℕ, Bool, true, false, not, ◌&&◌, cond, List, eqb, ℤ, pos, get_or, set}
use Rattle.int.specs.Word.{add32, eq_z}
use Rattle.math.specs.Fixed.{mul_div}
use Rattle.flags.specs.declared.CoordAxis.{CoordAxis}
use Rattle.flags.specs.declared.CoordAxis.TheVariants.{Both, X, Y}
use Rattle.graphics.specs.State.{past_both_iups}
use Rattle.graphics.specs.declared.Vector.{Vector}
use Rattle.graphics.specs.declared.Vectors.{Vectors}
use Rattle.graphics.specs.declared.Facts.{Facts}
use Rattle.projection.specs.Projection.{fdotp_of, freedom_axis_of}
use Rattle.moves.specs.declared.Move.{Move}

-- ---- a step along the freedom vector
abbrev pub is_not0 : ℤ → Bool
is_not0 z = not (eq_z z (pos 0))

-- the touch bits of x and of y
abbrev pub bits_for : Bool → Bool → ℕ
bits_for true true = 6
bits_for true false = 2
bits_for false true = 4
bits_for false false = 0

-- on an axis the distance as it is and the other axis left alone; else both components, scaled by fdotp, where they are not 0
unfoldable pub step_by : Vector → ℤ → ℤ → CoordAxis → Move
step_by f fdotp d X = record { moves_x = true; dx = d; moves_y = false; dy = pos 0; touch = 2 }
step_by f fdotp d Y = record { moves_x = false; dx = pos 0; moves_y = true; dy = d; touch = 4 }
step_by f fdotp d Both = record {
  moves_x = is_not0 f.x;
  dx = mul_div d f.x fdotp;
  moves_y = is_not0 f.y;
  dy = mul_div d f.y fdotp;
  touch = bits_for (is_not0 f.x) (is_not0 f.y);
}

abbrev pub step_along : Vectors → ℤ → Move
step_along v d = step_by v.freedom (fdotp_of v) d (freedom_axis_of v)

-- ---- what holds it back
-- the same step, not made on x or on y; the displacement and the touch bits stay
abbrev pub held_back : Move → Bool → Bool → Move
held_back m x y = record { moves_x = m.moves_x && not x; dx = m.dx; moves_y = m.moves_y && not y; dy = m.dy; touch = m.touch }

abbrev pub is_slanted : CoordAxis → Bool
is_slanted X = false
is_slanted Y = false
is_slanted Both = true

-- docs/src's exception of move_point
abbrev pub is_exempt : Vectors → Bool
is_exempt v = is_slanted (freedom_axis_of v) && eq_z v.projection.y (pos 0)

-- move_point: x is held under backward compatibility, y past both IUPs
unfoldable pub move_of : Vectors → Facts → ℤ → Move
move_of v f d = held_back (step_along v d) (f.backward_compatibility && not (is_exempt v)) (past_both_iups f && not (is_exempt v))

-- move_original: nothing is held or touched
abbrev pub untouching : Move → Move
untouching m = record { moves_x = m.moves_x; dx = m.dx; moves_y = m.moves_y; dy = m.dy; touch = 0 }

unfoldable pub original_move_of : Vectors → ℤ → Move
original_move_of v d = untouching (step_along v d)

-- move_zp2_point: each axis that the freedom vector has a part in, by the displacement given; no exception
unfoldable pub zp2_move_of : Vectors → Facts → ℤ → ℤ → Bool → Move
zp2_move_of v f dx dy touches =
    held_back
    (record {
      moves_x = is_not0 v.freedom.x;
      dx = dx;
      moves_y = is_not0 v.freedom.y;
      dy = dy;
      touch = bits_for (is_not0 v.freedom.x && touches) (is_not0 v.freedom.y && touches);
    })
    f.backward_compatibility
    (past_both_iups f)

-- nothing is moved or touched, so a wild index is accepted
abbrev pub is_idle : Move → Bool
is_idle m = not m.moves_x && not m.moves_y && eqb m.touch 0

-- ---- one axis's list
abbrev pub add_at : List ℤ → ℕ → ℤ → List ℤ
add_at l at by = set l at (add32 (get_or l at (pos 0)) by)

-- the list itself where the axis does not move
abbrev pub moved_at : List ℤ → ℕ → ℤ → Bool → List ℤ
moved_at l at by moves = cond moves (add_at l at by) l
