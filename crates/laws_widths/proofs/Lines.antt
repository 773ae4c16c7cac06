-- Every line keeps every value in its width: so does each thing that a line does. Assumes nothing.
use Prim.Native.Nat.{ℕ, ◌<◌, ◌^◌}
use mathlib.Core.Bool.{Bool, cond, false, true}
use mathlib.Core.List.{List}
use mathlib.Core.Path.{◌≡◌}
use native.Mathlib.Omega.{arith}
use lib.IntN.{ℤ}
use mir.Syntax.{w32}
use mir.Val.{SFits}
use Rattle.graphics.specs.State.{marked_x, marked_y, past_both_iups, with_loop_counter, with_push, with_rounding}
use Rattle.graphics.specs.declared.GraphicsState.{GraphicsState}
use Rattle.graphics.specs.declared.Vector.{Vector}
use Rattle.graphics.specs.declared.Vectors.{Vectors}
use Rattle.graphics.specs.declared.ZonePointer.TheVariants.{Glyph, Twilight}
use Rattle.graphics.specs.declared.ZonePointer.{ZonePointer}
use Rattle.int.proofs.Tests.{either}
use Rattle.int.proofs.Wraps.{add32_fits, wrap_fits}
use Rattle.int.specs.Word.{add32, quot32}
use Rattle.crossing.specs.Crossing.{cross_of, crossing_of, dot_of, from_to, meet, middle_by, moved_of}
use Rattle.laws_lines.proofs.Stays.{Stays, isect_stays, laid}
use Rattle.line_isect.specs.Isect.{isect_of, put_touched}
use Rattle.line_iup.specs.Iup.{iup_line_of, marked_for, walked_in}
use Rattle.line_miap.specs.Numbers.{control_place}
use Rattle.line_mirp.specs.Mirp.{mirp_place}
use Rattle.line.specs.Places.{place_in}
use Rattle.rules.specs.declared.Rules.TheVariants.{FreeType, Skrifa}
use Rattle.rules.specs.declared.Rules.{Rules}
use Rattle.line_msirp.specs.Msirp.{made_from, made_place}
use Rattle.line_relative.specs.Relative.{related_by}
use Rattle.line_steps.specs.Loop.{points}
use Rattle.line_steps.specs.Steps.{flags_in, in_state, made_in}
use Rattle.line_utp.specs.Utp.{untouch_in, untouched_by}
use Rattle.math.specs.Fixed.{mul_fix14}
use Rattle.moves.specs.Apply.{apply_in}
use Rattle.moves.specs.Move.{is_not0, move_of, original_move_of, zp2_move_of}
use Rattle.moves.specs.declared.Move.{Move}
use Rattle.line.specs.Operands.{is_odd}
use Rattle.flags.specs.Flag.{touch_bits}
use Rattle.flags.specs.declared.Axis.TheVariants.{X, Y}
use Rattle.flags.specs.declared.CoordAxis.TheVariants.{Both}
use Rattle.record_read.proofs.Widths.{FixedInWidth, InWidth, StateInWidth}
use Rattle.state_words.proofs.Back.{VectorFits}
use Rattle.words.proofs.Widths.{Below, every_set}
use Rattle.line.specs.World.{Fixed, World}
use Rattle.zone.specs.Zone.{Marked, flip_of, place_of, set_on_curve_of}
use Rattle.laws_widths.proofs.Contours.{iup_fits}
use Rattle.laws_widths.proofs.Setters.{references_fit, reset_fits, rp0_fits, rp1_fits, rp2_fits, with_facts_fits, with_push_fits, with_references_fits, with_rounding_fits}
use Rattle.laws_widths.proofs.PointsFit.{PointsFit}
use Rattle.laws_widths.proofs.Steps.{apply_fits, flip_fits, move_small, on_curve_fits, or_fits, place_fits, untouched_fits, zp2_small}

-- ---- moves
laid_fits : (zone : ZonePointer) (m : Move) → m.touch < 256 → (at : ℕ) (w : World) → InWidth w → InWidth (laid zone m at w)
unfolding apply_in
laid_fits Glyph m h at w k =
    let p = apply_fits m h at (points w.gx w.gy w.gflags) (record { xs = k.gx; ys = k.gy; flags = k.gflags }) in
    record { state = k.state; gx = p.xs; gy = p.ys; gflags = p.flags; tox = k.tox; toy = k.toy; tx = k.tx; ty = k.ty; tflags = k.tflags }
laid_fits Twilight m h at w k =
    let p = apply_fits m h at (points w.tx w.ty w.tflags) (record { xs = k.tx; ys = k.ty; flags = k.tflags }) in
    record { state = k.state; gx = k.gx; gy = k.gy; gflags = k.gflags; tox = k.tox; toy = k.toy; tx = p.xs; ty = p.ys; tflags = p.flags }

-- ---- a twilight point made
made_fits : (at : ℕ) (place : Vector) → VectorFits place → (zone : ZonePointer) (w : World) → InWidth w → InWidth (made_in at place w zone)
unfolding made_in
made_fits at place v Glyph w k = k
made_fits at place v Twilight w k =
    record {
      state = k.state;
      gx = k.gx;
      gy = k.gy;
      gflags = k.gflags;
      tox = every_set k.tox v.0 at;
      toy = every_set k.toy v.1 at;
      tx = every_set k.tx v.0 at;
      ty = every_set k.ty v.1 at;
      tflags = k.tflags;
    }

control_fits : (freedom : Vector) (control : ℤ) → VectorFits (control_place freedom control)
unfolding control_place mul_fix14
control_fits freedom control = (wrap_fits _, wrap_fits _)

made_place_fits : (v : Vectors) (d : ℤ) (p : Vector) → VectorFits p → VectorFits (made_place v d p)
unfolding made_place
made_place_fits v d p f =
    let m = original_move_of v d in
    (by m.moves_x p.x m.dx f.0, by m.moves_y p.y m.dy f.1)
  where
    by : (moves : Bool) (z d : ℤ) → SFits w32 z → SFits w32 (cond moves (add32 z d) z)
    by true z d h = add32_fits z d
    by false z d h = h

from_fits : (rules : Rules) {own reference : Vector} → VectorFits own → VectorFits reference → VectorFits (made_from rules own reference)
from_fits Skrifa h k = h
from_fits FreeType h k = k

place_in_fits : {f : Fixed} {w : World} → FixedInWidth f → InWidth w → (at : ℕ) (zone : ZonePointer) → VectorFits (place_in at f.gox f.goy w.tox w.toy zone)
unfolding place_in
place_in_fits o k at Glyph = place_fits o.gox o.goy at
place_in_fits o k at Twilight = place_fits k.tox k.toy at

mirp_place_fits : (freedom : Vector) (control : ℤ) (reference : Vector) → VectorFits (mirp_place freedom control reference)
unfolding mirp_place
mirp_place_fits freedom control reference = (add32_fits reference.x _, add32_fits reference.y _)

-- ---- the state
pub in_state_fits : (w : World) (s : GraphicsState) → StateInWidth s → InWidth w → InWidth (in_state w s)
in_state_fits w s f k = record { state = f; gx = k.gx; gy = k.gy; gflags = k.gflags; tox = k.tox; toy = k.toy; tx = k.tx; ty = k.ty; tflags = k.tflags }

related_fits : (s : GraphicsState) → StateInWidth s → (sets : Bool) (at : ℕ) → at < 2 ^ 64 → StateInWidth (related_by sets at s)
unfolding related_by
related_fits s f sets at h =
    let r = rp2_fits (rp1_fits (references_fit f) s.references.rp0 f.rp0) at h in
    either StateInWidth sets (with_references_fits f _ (rp0_fits r at h)) (with_references_fits f _ r)

-- ---- flags
flags_fit : (w : World) (m : Marked) → Below 256 m.flags → InWidth w → InWidth (flags_in w m).world
flags_fit w m f k = record { state = k.state; gx = k.gx; gy = k.gy; gflags = f; tox = k.tox; toy = k.toy; tx = k.tx; ty = k.ty; tflags = k.tflags }

untouched_in_width : (x y : Bool) (at : ℕ) (zone : ZonePointer) (w : World) → InWidth w → InWidth (untouch_in at x y w zone).world
unfolding untouch_in
untouched_in_width x y at Glyph w k = flags_fit w (untouched_by w.gflags at x y) (untouched_fits k.gflags at x y) k
untouched_in_width x y at Twilight w k =
    record { state = k.state; gx = k.gx; gy = k.gy; gflags = k.gflags; tox = k.tox; toy = k.toy; tx = k.tx; ty = k.ty; tflags = untouched_fits k.tflags at x y }

-- a point's number that becomes a reference has 64 bits
pub stays_in_width : (f : Fixed) → FixedInWidth f → (s : GraphicsState) → Stays f s (λ (at : ℕ). at < 2 ^ 64) InWidth
stays_in_width f o s = record {
  by_distance = λ zone d at w k. laid_fits zone (move_of s.vectors s.facts d) (move_small s.vectors s.facts d) at w k;
  by_shift = λ zone dx dy touches at w k. laid_fits zone (zp2_move_of s.vectors s.facts dx dy touches) (zp2_small s.vectors s.facts dx dy touches) at w k;
  by_control = λ control at zone w k. made_fits at (control_place s.vectors.freedom control) (control_fits s.vectors.freedom control) zone w k;
  from_original = λ d zp0 rp0 at zone w k. made_fits at (made_place s.vectors d (made_from f.rules (place_of w.tox w.toy at) (place_in rp0 f.gox f.goy w.tox w.toy zp0))) (made_place_fits s.vectors d _ (from_fits f.rules (place_fits k.tox k.toy at) (place_in_fits o k rp0 zp0))) zone w k;
  from_reference = λ control reference at zone w k. made_fits at (mirp_place s.vectors.freedom control reference) (mirp_place_fits s.vectors.freedom control reference) zone w k;
  flipped = λ at w k. flags_fit w (flip_of w.gflags at) (flip_fits k.gflags at) k;
  ranged = λ start end on w k. flags_fit w (set_on_curve_of w.gflags start end on) (on_curve_fits k.gflags start end on) k;
  untouched = λ zone at w k. untouched_in_width (is_not0 s.vectors.freedom.x) (is_not0 s.vectors.freedom.y) at zone w k;
  both_set = λ at w h k. in_state_fits w _ (with_references_fits k.state _ (rp1_fits (rp0_fits (references_fit k.state) at h) at h)) k;
  three_set = λ sets at w h k. in_state_fits w (related_by sets at w.state) (related_fits w.state k.state sets at h) k;
  counted = λ w k. in_state_fits w (with_loop_counter w.state 1) (reset_fits k.state) k;
  rounded = λ wrapped w k. in_state_fits w (with_rounding wrapped w.state) (with_rounding_fits k.state wrapped) k;
  pushed = λ value w fits k. in_state_fits w (with_push value w.state) (with_push_fits k.state fits) k;
}

-- ---- ISECT
crossing_fits : (a0 a1 b0 b1 : Vector) → VectorFits (crossing_of a0 a1 b0 b1)
unfolding crossing_of moved_of middle_by quot32
crossing_fits a0 a1 b0 b1 =
    either VectorFits (meet (cross_of (from_to a0 a1) (from_to b0 b1)) (dot_of (from_to a0 a1) (from_to b0 b1))) (add32_fits a0.x _, add32_fits a0.y _) (wrap_fits _, wrap_fits _)

put_fits : (at : ℕ) (place : Vector) → VectorFits place → (w : World) → InWidth w → (zone : ZonePointer) → InWidth (put_touched at place w zone)
unfolding put_touched
put_fits at place v w k Glyph =
    record { state = k.state; gx = every_set k.gx v.0 at; gy = every_set k.gy v.1 at; gflags = or_fits k.gflags at (touch_bits Both) (omega arith); tox = k.tox; toy = k.toy; tx = k.tx; ty = k.ty; tflags = k.tflags }
put_fits at place v w k Twilight =
    record { state = k.state; gx = k.gx; gy = k.gy; gflags = k.gflags; tox = k.tox; toy = k.toy; tx = every_set k.tx v.0 at; ty = every_set k.ty v.1 at; tflags = or_fits k.tflags at (touch_bits Both) (omega arith) }

pub isect_in_width : (f : Fixed) (op : ℕ) (operands : List ℤ) (w : World) → InWidth w → InWidth (isect_of f op operands w).world
isect_in_width f op operands w k =
    isect_stays InWidth f op operands w k (λ at a0 a1 b0 b1 zone. put_fits at (crossing_of a0 a1 b0 b1) (crossing_fits a0 a1 b0 b1) w k zone)

-- ---- IUP
walked_fits : (f : Fixed) (w : World) → InWidth w → (odd : Bool) → InWidth (walked_in f w odd)
walked_fits f w k true =
    record { state = k.state; gx = iup_fits X w.gflags f.contours f.gux f.gox k.gx; gy = k.gy; gflags = k.gflags; tox = k.tox; toy = k.toy; tx = k.tx; ty = k.ty; tflags = k.tflags }
walked_fits f w k false =
    record { state = k.state; gx = k.gx; gy = iup_fits Y w.gflags f.contours f.guy f.goy k.gy; gflags = k.gflags; tox = k.tox; toy = k.toy; tx = k.tx; ty = k.ty; tflags = k.tflags }

marked_fits : (s : GraphicsState) → StateInWidth s → (op : ℕ) → StateInWidth (marked_for s op)
unfolding marked_for
marked_fits s f op =
    either StateInWidth s.facts.backward_compatibility
    (either StateInWidth (is_odd op) (with_facts_fits f (marked_x s.facts)) (with_facts_fits f (marked_y s.facts)))
    f

pub iup_in_width : (f : Fixed) (op : ℕ) (operands : List ℤ) (w : World) → InWidth w → InWidth (iup_line_of f op operands w).world
unfolding iup_line_of
iup_in_width f op operands w k =
    either InWidth (past_both_iups w.state.facts) k
    (walked_fits f (in_state w (marked_for w.state op)) (in_state_fits w (marked_for w.state op) (marked_fits w.state k.state op) k) (is_odd op))
