-- The steps that lines are made of keep a point's values in their width: a new coordinate is a wrapped sum or comes from another list, and a flag's
-- new bits are below 256. Assumes nothing.
use mathlib.Core.Bool.{Bool, ◌&&◌, false, true}
use mathlib.Core.List.{List, map}
use Prim.Native.Nat.{◌-◌, ◌<◌, ℕ}
use native.Mathlib.Omega.{arith}
use lib.Bits.{and_lt, bit_or, bit_xor, or_lt, xor_lt}
use lib.Dec.{leb, ltb}
use lib.IntN.{pos, ℤ}
use lib.ListN.{get_or, length}
use mir.Facts.{sfits_lit}
use mir.Syntax.{w32}
use mir.Val.{SFits}
use Rattle.graphics.specs.declared.Facts.{Facts}
use Rattle.graphics.specs.declared.Vector.{Vector}
use Rattle.graphics.specs.declared.Vectors.{Vectors}
use Rattle.graphics.specs.declared.ZonePointer.TheVariants.{Glyph, Twilight}
use Rattle.graphics.specs.declared.ZonePointer.{ZonePointer}
use Rattle.int.proofs.Tests.{either}
use Rattle.int.proofs.Wraps.{add32_fits}
use Rattle.line_steps.specs.Loop.{Points, points}
use Rattle.line_utp.specs.Utp.{untouched_by}
use Rattle.moves.specs.Apply.{Moved, apply_in, apply_of}
use Rattle.moves.specs.Move.{bits_for, is_not0, move_of, moved_at, step_by, zp2_move_of}
use Rattle.moves.specs.declared.Move.{Move}
use Rattle.line.specs.Places.{Pair, put_at}
use Rattle.flags.specs.Flag.{cleared, touch_bits}
use Rattle.flags.specs.declared.CoordAxis.{CoordAxis}
use Rattle.flags.specs.declared.CoordAxis.TheVariants.{Both, X, Y}
use Rattle.projection.specs.Projection.{fdotp_of, freedom_axis_of}
use Rattle.state_words.proofs.Back.{VectorFits}
use Rattle.words.proofs.Widths.{Below, Numbers, every_at, every_drop, every_join, every_map, every_set, every_take}
use Rattle.zone.specs.Zone.{Marked, change_at, marked_at, on_curve, or_at, over_part, place_of, set_on_curve_of}
use Rattle.laws_widths.proofs.PointsFit.{PointsFit}

-- ---- coordinates
pub zero_fits : SFits w32 (pos 0)
zero_fits = sfits_lit tt

-- a point that is read; (0, 0) outside
pub place_fits : {xs ys : List ℤ} → Numbers xs → Numbers ys → (at : ℕ) → VectorFits (place_of xs ys at)
place_fits f g at = (every_at f zero_fits at, every_at g zero_fits at)

-- a coordinate that is moved, by whatever it is
pub moved_fits : {l : List ℤ} → Numbers l → (at : ℕ) (by : ℤ) (moves : Bool) → Numbers (moved_at l at by moves)
moved_fits {l} f at by moves = either Numbers moves (every_set f (add32_fits (get_or l at (pos 0)) by) at) f

-- ---- flags
module _ {flags : List ℕ} (fits : Below 256 flags) where
  module _ (g : ℕ → ℕ) (small : (flag : ℕ) → flag < 256 → g flag < 256) where
    pub change_fits : (at : ℕ) → Below 256 (change_at g flags at)
    change_fits at = every_set fits (small (get_or flags at 0) (every_at fits (omega arith) at)) at

    pub marked_fits : (at : ℕ) → Below 256 (marked_at g flags at).flags
    unfolding marked_at
    marked_fits at = either (λ (m : Marked). Below 256 m.flags) (ltb at (length flags)) (change_fits at) fits

    part_fits : (start end : ℕ) → Below 256 (over_part (map g) start end flags)
    unfolding over_part
    part_fits start end =
        every_join (every_take fits start) (every_join (every_map g small (every_take (every_drop fits start) (end - start))) (every_drop fits end))

  pub or_fits : (at mask : ℕ) → mask < 256 → Below 256 (or_at flags at mask)
  or_fits at mask h = change_fits (λ (flag : ℕ). bit_or flag mask) (λ flag k. or_lt 8 flag mask k h) at

  pub flip_fits : (at : ℕ) → Below 256 (marked_at (λ (flag : ℕ). bit_xor flag 1) flags at).flags
  flip_fits at = marked_fits (λ (flag : ℕ). bit_xor flag 1) (λ flag k. xor_lt 8 flag 1 k (omega arith)) at

  cleared_fits : (mask : ℕ) → 255 - mask < 256 → (at : ℕ) → Below 256 (marked_at (λ (flag : ℕ). cleared flag mask) flags at).flags
  cleared_fits mask h at = marked_fits (λ (flag : ℕ). cleared flag mask) (λ flag k. and_lt 8 flag (255 - mask) k h) at

  pub untouched_fits : (at : ℕ) (x y : Bool) → Below 256 (untouched_by flags at x y).flags
  unfolding untouched_by
  untouched_fits at true true = cleared_fits (touch_bits Both) (omega arith) at
  untouched_fits at true false = cleared_fits (touch_bits X) (omega arith) at
  untouched_fits at false true = cleared_fits (touch_bits Y) (omega arith) at
  untouched_fits at false false = fits

  pub on_curve_fits : (start end : ℕ) (on : Bool) → Below 256 (set_on_curve_of flags start end on).flags
  unfolding set_on_curve_of
  on_curve_fits start end on =
      either (λ (m : Marked). Below 256 m.flags) (leb start end && leb end (length flags)) (part_fits (on_curve on) (on_curve_small on) start end) fits
    where
      on_curve_small : (b : Bool) (flag : ℕ) → flag < 256 → on_curve b flag < 256
      on_curve_small true flag k = or_lt 8 flag 1 k (omega arith)
      on_curve_small false flag k = and_lt 8 flag 254 k (omega arith)

-- ---- the touch bits of a move
bits_small : (x y : Bool) → bits_for x y < 256
bits_small true true = omega arith
bits_small true false = omega arith
bits_small false true = omega arith
bits_small false false = omega arith

step_small : (f : Vector) (fdotp d : ℤ) (axis : CoordAxis) → (step_by f fdotp d axis).touch < 256
unfolding step_by
step_small f fdotp d X = omega arith
step_small f fdotp d Y = omega arith
step_small f fdotp d Both = bits_small (is_not0 f.x) (is_not0 f.y)

pub move_small : (v : Vectors) (f : Facts) (d : ℤ) → (move_of v f d).touch < 256
unfolding move_of
move_small v f d = step_small v.freedom (fdotp_of v) d (freedom_axis_of v)

pub zp2_small : (v : Vectors) (f : Facts) (dx dy : ℤ) (touches : Bool) → (zp2_move_of v f dx dy touches).touch < 256
unfolding zp2_move_of
zp2_small v f dx dy touches = bits_small (is_not0 v.freedom.x && touches) (is_not0 v.freedom.y && touches)

-- ---- points and flags
pub apply_fits : (m : Move) → m.touch < 256 → (at : ℕ) (p : Points) → PointsFit p
    → let r = apply_of m at p.xs p.ys p.flags in PointsFit (points r.xs r.ys r.flags)
unfolding apply_of
apply_fits m h at p f =
    either (λ (r : Moved). PointsFit (points r.xs r.ys r.flags)) (ltb at (length p.xs))
    (record {
      xs = moved_fits f.xs at m.dx m.moves_x;
      ys = moved_fits f.ys at m.dy m.moves_y;
      flags = or_fits f.flags at m.touch h;
    })
    (record { xs = f.xs; ys = f.ys; flags = f.flags })
