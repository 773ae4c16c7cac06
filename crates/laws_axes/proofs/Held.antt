-- Only the lines that set vectors change them, and with the vectors along an axis no line but an intersection and IUP across leaves a glyph point's coordinate or mark across it
-- another: so with each thing that a line does. Assumes nothing.
use Rattle.std.specs.Prelude.{Ok, Err}
use Prim.Native.Nat.{◌+◌, ◌-◌, ◌≤◌, ℕ}
use native.Mathlib.Omega.{arith}
use mathlib.Core.Bool.{Bool, ◌&&◌, cond, false, true}
use mathlib.Core.List.{List, [], ◌++◌, ◌∷◌, append_assoc, map, map-append}
use mathlib.Core.Path.{◌≡◌, ap, ap₂, refl, subst, sym, ◌∙◌}
use lib.Bits.{bit_xor}
use lib.Dec.{leb, ltb}
use lib.IntN.{ℤ}
use lib.ListN.{drop, get_or, length, take, take-append-drop}
use lib.Seq.{map-set_same, take-add}
use borrow.Author.Tests.{leb-true}
use Rattle.answer.specs.declared.Refusal.TheVariants.{Point, Range}
use Rattle.laws_axes.proofs.Inert.{Inert, apply_still, inert_move, inert_zp2, on_curve_apart, stays, then}
use Rattle.laws_axes.specs.Axes.{Still, Straight, across, mark_across, marks_across, unit_of}
use Rattle.flags.specs.declared.Axis.TheVariants.{X, Y}
use Rattle.flags.specs.declared.Axis.{Axis}
use Rattle.graphics.proofs.Laws.{and_left}
use Rattle.graphics.specs.State.{past_both_iups, with_push, with_rounding}
use Rattle.graphics.specs.declared.GraphicsState.{GraphicsState}
use Rattle.graphics.specs.declared.Vector.{Vector}
use Rattle.graphics.specs.declared.Vectors.{Vectors}
use Rattle.graphics.specs.declared.ZonePointer.TheVariants.{Glyph, Twilight}
use Rattle.graphics.specs.declared.ZonePointer.{ZonePointer}
use Rattle.int.proofs.Tests.{either}
use Rattle.laws_lines.proofs.Stays.{Stays, laid, made_state, untouched_state}
use Rattle.line_iup.specs.Iup.{iup_line_of, marked_for, walked_in}
use Rattle.line_miap.specs.Numbers.{control_place}
use Rattle.line_mirp.specs.Mirp.{mirp_place}
use Rattle.line.specs.Places.{place_in}
use Rattle.line_msirp.specs.Msirp.{made_from, made_place}
use Rattle.line_relative.specs.Relative.{related_by}
use Rattle.line_steps.specs.Steps.{flags_in, in_state, made_in}
use Rattle.line_utp.specs.Utp.{untouch_in, untouched_by}
use Rattle.moves.specs.Apply.{apply_in}
use Rattle.moves.specs.Move.{is_not0, move_of, zp2_move_of}
use Rattle.moves.specs.declared.Move.{Move}
use Rattle.line.specs.Operands.{is_odd}
use Rattle.flags.proofs.Bits.{and_keeps, or_keeps, xor_keeps}
use Rattle.flags.specs.Flag.{bit, cleared}
use Rattle.line.specs.World.{Fixed, World}
use Rattle.zone.specs.Zone.{change_at, flip_of, marked, marked_at, on_curve, over_part, place_of, set_on_curve_of}

-- ---- the vectors
abbrev pub VectorsOf : GraphicsState → World → Type 0
VectorsOf s w = w.state.vectors ≡ s.vectors

related_held : (s : GraphicsState) (sets : Bool) (at : ℕ) → (related_by sets at s).vectors ≡ s.vectors
unfolding related_by
related_held s sets at = either (λ (t : GraphicsState). t.vectors ≡ s.vectors) sets refl refl

-- along the axis where they were
pub stays_straight : (a : Axis) (f : Fixed) (u : World) → Stays f u.state (λ _. Unit {0}) (λ (w : World). Straight a u.state → Straight a w.state)
unfolding with_push with_rounding
stays_straight a f u = let s = u.state in record {
  by_distance = λ zone d at w k. k;
  by_shift = λ zone dx dy touches at w k. k;
  by_control = λ control at zone w k h. ap (λ (t : GraphicsState). t.vectors) (made_state at (control_place s.vectors.freedom control) w zone) ∙ k h;
  from_original = λ d zp0 rp0 at zone w k h. ap (λ (t : GraphicsState). t.vectors) (made_state at (made_place s.vectors d (made_from f.rules (place_of w.tox w.toy at) (place_in rp0 f.gox f.goy w.tox w.toy zp0))) w zone) ∙ k h;
  from_reference = λ control reference at zone w k h. ap (λ (t : GraphicsState). t.vectors) (made_state at (mirp_place s.vectors.freedom control reference) w zone) ∙ k h;
  flipped = λ at w k. k;
  ranged = λ start end on w k. k;
  untouched = λ zone at w k h. ap (λ (t : GraphicsState). t.vectors) (untouched_state at (is_not0 s.vectors.freedom.x) (is_not0 s.vectors.freedom.y) w zone) ∙ k h;
  both_set = λ at w r k. k;
  three_set = λ sets at w r k h. related_held w.state sets at ∙ k h;
  counted = λ w k. k;
  rounded = λ wrapped w k. k;
  pushed = λ value w fits k. k;
}

marked_held : (s : GraphicsState) (op : ℕ) → (marked_for s op).vectors ≡ s.vectors
unfolding marked_for
marked_held s op =
    let P : GraphicsState → Type 0 = λ t. t.vectors ≡ s.vectors in
    either P s.facts.backward_compatibility (either P (is_odd op) refl refl) refl

walked_held : (f : Fixed) (w : World) (odd : Bool) → (walked_in f w odd).state.vectors ≡ w.state.vectors
walked_held f w true = refl
walked_held f w false = refl

pub iup_held : (f : Fixed) (op : ℕ) (operands : List ℤ) (w : World) → VectorsOf w.state (iup_line_of f op operands w).world
unfolding iup_line_of
iup_held f op operands w =
    either (VectorsOf w.state) (past_both_iups w.state.facts) refl
    (walked_held f (in_state w (marked_for w.state op)) (is_odd op) ∙ marked_held w.state op)

-- ---- what lies across the axis
abbrev pub StillSince : Axis → World → World → Type 0
StillSince a u w = Still a u.gx u.gy u.gflags w.gx w.gy w.gflags

laid_still : (a : Axis) (u : World) (zone : ZonePointer) (m : Move) → Inert a m → (at : ℕ) (w : World) → StillSince a u w → StillSince a u (laid zone m at w)
unfolding apply_in
laid_still a u Glyph m i at w k = then (apply_still a m i at w.gx w.gy w.gflags) k
laid_still a u Twilight m i at w k = k

made_still : (a : Axis) (u : World) (at : ℕ) (place : Vector) (zone : ZonePointer) (w : World) → StillSince a u w → StillSince a u (made_in at place w zone)
unfolding made_in
made_still a u at place Glyph w k = k
made_still a u at place Twilight w k = k

marks_still : (a : Axis) (u w : World) {flags : List ℕ} → marks_across a flags ≡ marks_across a w.gflags → StillSince a u w → Still a u.gx u.gy u.gflags w.gx w.gy flags
marks_still a u w e k = record { coordinates = k.coordinates; marks = e ∙ k.marks }

-- a flip and a range of flips change bit 0 alone
curve_kept : (a : Axis) (on : Bool) (flag : ℕ) → bit (mark_across a) (on_curve on flag) ≡ bit (mark_across a) flag
curve_kept a true flag = or_keeps (mark_across a) flag 1 (on_curve_apart a)
curve_kept X false flag = and_keeps 2 flag 254 refl
curve_kept Y false flag = and_keeps 1 flag 254 refl

marks_of_curve : (a : Axis) (on : Bool) (l : List ℕ) → marks_across a (map (on_curve on) l) ≡ marks_across a l
marks_of_curve a on [] = refl
marks_of_curve a on (flag ∷ rest) = ap₂ (λ (m : ℕ) (ms : List ℕ). m ∷ ms) (curve_kept a on flag) (marks_of_curve a on rest)

-- a list is its parts
parts : (start end : ℕ) (l : List ℕ) → start ≤ end → take start l ++ (take (end - start) (drop start l) ++ drop end l) ≡ l
parts start end l h =
    let e : start + (end - start) ≡ end = omega arith in
    sym (append_assoc (take start l) (take (end - start) (drop start l)) (drop end l))
    ∙ ap (λ (front : List ℕ). front ++ drop end l) (sym (take-add start (end - start) l) ∙ ap (λ (n : ℕ). take n l) e)
    ∙ take-append-drop end l

over_still : (a : Axis) (on : Bool) (start end : ℕ) (l : List ℕ) → start ≤ end → marks_across a (over_part (map (on_curve on)) start end l) ≡ marks_across a l
unfolding over_part
over_still a on start end l h =
    let mark = bit (mark_across a) in
    let middle = take (end - start) (drop start l) in
    map-append mark (take start l) (map (on_curve on) middle ++ drop end l)
    ∙ ap (λ (rest : List ℕ). map mark (take start l) ++ rest)
    (map-append mark (map (on_curve on) middle) (drop end l) ∙ ap (λ (m : List ℕ). m ++ map mark (drop end l)) (marks_of_curve a on middle) ∙ sym (map-append mark middle (drop end l)))
    ∙ sym (map-append mark (take start l) (middle ++ drop end l))
    ∙ ap (map mark) (parts start end l h)

set_by : (a : Axis) (flags : List ℕ) (start end : ℕ) (on : Bool) (t : Bool) → leb start end && leb end (length flags) ≡ t
    → marks_across a (cond t (marked (Ok tt) (over_part (map (on_curve on)) start end flags)) (marked (Err (Range start)) flags)).flags ≡ marks_across a flags
set_by a flags start end on true e = over_still a on start end flags (leb-true start end (and_left (leb start end) (leb end (length flags)) e))
set_by a flags start end on false e = refl

set_still : (a : Axis) (flags : List ℕ) (start end : ℕ) (on : Bool) → marks_across a (set_on_curve_of flags start end on).flags ≡ marks_across a flags
unfolding set_on_curve_of
set_still a flags start end on = set_by a flags start end on (leb start end && leb end (length flags)) refl

-- one flag changed, but for its mark across
changed_by : (a : Axis) (change : ℕ → ℕ) → ((flag : ℕ) → bit (mark_across a) (change flag) ≡ bit (mark_across a) flag) → (flags : List ℕ) (at : ℕ) (t : Bool)
    → marks_across a (cond t (marked (Ok tt) (change_at change flags at)) (marked (Err (Point at)) flags)).flags ≡ marks_across a flags
changed_by a change keeps flags at true = map-set_same (bit (mark_across a)) flags at (change (get_or flags at 0)) 0 (keeps (get_or flags at 0))
changed_by a change keeps flags at false = refl

changed_still : (a : Axis) (change : ℕ → ℕ) → ((flag : ℕ) → bit (mark_across a) (change flag) ≡ bit (mark_across a) flag) → (flags : List ℕ) (at : ℕ)
    → marks_across a (marked_at change flags at).flags ≡ marks_across a flags
unfolding marked_at
changed_still a change keeps flags at = changed_by a change keeps flags at (ltb at (length flags))

flip_still : (a : Axis) (flags : List ℕ) (at : ℕ) → marks_across a (flip_of flags at).flags ≡ marks_across a flags
flip_still a flags at = changed_still a (λ (flag : ℕ). bit_xor flag 1) (λ flag. xor_keeps (mark_across a) flag 1 (on_curve_apart a)) flags at

-- a freedom vector along the axis has no part in the mark across
untouched_on : (a : Axis) (flags : List ℕ) (at : ℕ) → marks_across a (untouched_by flags at (is_not0 (unit_of a).x) (is_not0 (unit_of a).y)).flags ≡ marks_across a flags
unfolding untouched_by
untouched_on X flags at = changed_still X (λ (flag : ℕ). cleared flag 2) (λ flag. and_keeps 2 flag 253 refl) flags at
untouched_on Y flags at = changed_still Y (λ (flag : ℕ). cleared flag 4) (λ flag. and_keeps 1 flag 251 refl) flags at

untouched_still : (a : Axis) (u : World) (s : GraphicsState) → Straight a s → (zone : ZonePointer) (at : ℕ) (w : World) → StillSince a u w
    → StillSince a u (untouch_in at (is_not0 s.vectors.freedom.x) (is_not0 s.vectors.freedom.y) w zone).world
unfolding untouch_in
untouched_still a u s e Glyph at w k =
    marks_still a u w
    (subst (λ (v : Vectors). marks_across a (untouched_by w.gflags at (is_not0 v.freedom.x) (is_not0 v.freedom.y)).flags ≡ marks_across a w.gflags) (sym e) (untouched_on a w.gflags at))
    k
untouched_still a u s e Twilight at w k = k

pub stays_still : (a : Axis) (f : Fixed) (u : World) (s : GraphicsState) → Straight a s → Stays f s (λ _. Unit {0}) (StillSince a u)
stays_still a f u s e = record {
  by_distance = λ zone d at w k. laid_still a u zone (move_of s.vectors s.facts d) (inert_move a s.vectors e s.facts d) at w k;
  by_shift = λ zone dx dy touches at w k. laid_still a u zone (zp2_move_of s.vectors s.facts dx dy touches) (inert_zp2 a s.vectors e s.facts dx dy touches) at w k;
  by_control = λ control at zone w k. made_still a u at (control_place s.vectors.freedom control) zone w k;
  from_original = λ d zp0 rp0 at zone w k. made_still a u at (made_place s.vectors d (made_from f.rules (place_of w.tox w.toy at) (place_in rp0 f.gox f.goy w.tox w.toy zp0))) zone w k;
  from_reference = λ control reference at zone w k. made_still a u at (mirp_place s.vectors.freedom control reference) zone w k;
  flipped = λ at w k. marks_still a u w (flip_still a w.gflags at) k;
  ranged = λ start end on w k. marks_still a u w (set_still a w.gflags start end on) k;
  untouched = λ zone at w k. untouched_still a u s e zone at w k;
  both_set = λ at w r k. k;
  three_set = λ sets at w r k. k;
  counted = λ w k. k;
  rounded = λ wrapped w k. k;
  pushed = λ value w fits k. k;
}

-- ---- IUP along the axis
abbrev pub along_is : Axis → Bool
along_is X = true
along_is Y = false

walked_still : (a : Axis) (f : Fixed) (w : World) (odd : Bool) → odd ≡ along_is a → StillSince a w (walked_in f w odd)
walked_still X f w true e = record { coordinates = refl; marks = refl }
walked_still X f w false e = record { coordinates = cc e; marks = refl }
walked_still Y f w true e = record { coordinates = cc e; marks = refl }
walked_still Y f w false e = record { coordinates = refl; marks = refl }

pub iup_still : (a : Axis) (f : Fixed) (op : ℕ) (operands : List ℤ) (w : World) → is_odd op ≡ along_is a → StillSince a w (iup_line_of f op operands w).world
unfolding iup_line_of
iup_still a f op operands w e =
    either (StillSince a w) (past_both_iups w.state.facts) (stays a w.gx w.gy w.gflags)
    (walked_still a f (in_state w (marked_for w.state op)) (is_odd op) e)
