-- Each line seen along an axis: with the vectors along it, what is seen after the line is what would be seen if every coordinate across the axis were 0. A line's law is
-- the chain of its steps' laws, in the order of its definition. Assumes nothing.
use Rattle.std.specs.Prelude.{Result, Ok, Err}
use Prim.Native.Nat.{ℕ, ◌-◌, suc}
use mathlib.Core.Bool.{Bool, ◌&&◌, cond, false, true}
use mathlib.Core.List.{List, [], ◌∷◌}
use mathlib.Core.Path.{◌≡◌, ap, ap₂, refl, sym, ◌∙◌}
use lib.Dec.{eqb, ltb}
use lib.IntN.{ℤ, pos}
use lib.ListN.{length, length-set, set}
use Rattle.round.specs.Tracked.{given}
use Rattle.round.specs.declared.Tracked.{Tracked}
use Rattle.answer.specs.declared.Refusal.TheVariants.{Compatibility, Contour}
use Rattle.answer.specs.declared.Refusal.TheVariants.{ZonePointer as BadZone}
use Rattle.answer.specs.declared.Refusal.{Refusal}
use Rattle.laws_axes.proofs.Seen.{displaced_seen}
use Rattle.laws_axes.proofs.Seen.{level_by, place_seen_lem, place_seen, project_seen, seen_by_test, x_again, x_length, x_set, y_again, y_set}
use Rattle.laws_axes.specs.Axes.{Straight, fixed_seen, leveled, lined_seen, unit_of, world_seen, x_seen, y_seen}
use Rattle.flags.specs.declared.Axis.TheVariants.{X, Y}
use Rattle.flags.specs.declared.Axis.{Axis}
use Rattle.graphics.specs.State.{all_along, past_both_iups}
use Rattle.graphics.specs.declared.GraphicsState.{GraphicsState}
use Rattle.graphics.specs.declared.Vector.{Vector}
use Rattle.graphics.specs.declared.Vectors.{Vectors}
use Rattle.graphics.specs.declared.ZonePointer.TheVariants.{Glyph, Twilight}
use Rattle.graphics.specs.declared.ZonePointer.{ZonePointer}
use Rattle.int.specs.Word.{index_of, neg32, sub32}
use Rattle.iup.specs.Iup.{iup_of}
use Rattle.laws_lines.proofs.Stays.{align_point_state, flip_point_state, shift_but_state, shift_point_state}
use Rattle.line_alignrp.specs.Alignrp.{align_point, alignrp_of}
use Rattle.line_flip.specs.Flip.{flip_point, flippt_of, fliprg_of, held_fast, set_through}
use Rattle.line_iup.specs.Iup.{iup_line_of, marked_for, walked_in, with_x, with_y}
use Rattle.line_mdap.specs.Mdap.{mdap_distance, mdap_of, outside_mdap, rounding_step, rounds_in}
use Rattle.line_miap.specs.Miap.{miap_of}
use Rattle.line_miap.specs.Numbers.{control_place, miap_distance}
use Rattle.rules.specs.declared.Rules.TheVariants.{FreeType, Skrifa}
use Rattle.rules.specs.declared.Rules.{Rules}
use Rattle.line_msirp.specs.Msirp.{made_from, made_place, moved_place, msirp_of}
use Rattle.line_relative.specs.Relative.{both_there, related}
use Rattle.line_shc_shz.specs.Shc.{point_after, shc_of, shz_of}
use Rattle.line_span.specs.Span.{points_from, same_zone, shift_but, span_in}
use Rattle.line_shift.specs.Shift.{pixel_move, shp_of, shpix_of}
use Rattle.line_steps.specs.Numbers.{from_origin}
use Rattle.line_steps.specs.Steps.{by_displaced, reference_in, reference_moved, done_in, in_state, laid_in, looped, made_in, move_in, on_both, one, passed_over, point_or, refused_in, rounded_move_in, shift_point, two}
use Rattle.moves.specs.Displacement.{reference_of}
use Rattle.moves.specs.Move.{is_idle, move_of, original_move_of, zp2_move_of}
use Rattle.moves.specs.declared.Displacement.{Displacement}
use Rattle.moves.specs.declared.Move.{Move}
use Rattle.line.specs.Operands.{is_odd}
use Rattle.line.specs.Places.{size_of}
use Rattle.projection.specs.Projection.{project_of}
use Rattle.line.specs.World.{Fixed, Lined, World, world}
use Rattle.zone.specs.Zone.{flip_of, place_of}
use Rattle.laws_axes.proofs.Steps.{Alike, Same, control_seen, done_seen, each_seen, first_seen, flags_seen, from_origin_seen, laid_seen, looped_seen, made_seen, move_seen, one_seen, original_alike, original_at, passed_seen, place_alike, point_seen, refused_seen, rounded_seen, state_seen, two_seen, world_again}
use Rattle.laws_axes.proofs.Walk.{across}

-- a line that sees nothing across the axis
abbrev pub LineSeen : Axis → (Fixed → ℕ → List ℤ → World → Lined) → Type 0
LineSeen a line = (f : Fixed) (op : ℕ) (operands : List ℤ) (w : World) → Straight a w.state → Same a (line (fixed_seen a f) op operands (world_seen a w)) (line f op operands w)

-- what ends with rp0 and rp1 set
both_set_seen : (a : Axis) (at : ℕ) (v w : World) → Alike a v w → Same a (done_in (on_both at v)) (done_in (on_both at w))
both_set_seen a at v w e = ap (λ (x : World). done_in (on_both at x)) e.seen

-- a distance between places that look alike
pub project_alike : (a : Axis) (v : Vectors) → v ≡ all_along (unit_of a) → (p q r s : Vector) → place_seen a p ≡ place_seen a q → place_seen a r ≡ place_seen a s → project_of v p r ≡ project_of v q s
project_alike a v e p q r s h k = sym (project_seen a v e p r) ∙ ap₂ (project_of v) h k ∙ project_seen a v e q s

-- ---- MDAP
mdap_distance_seen : (a : Axis) (w : World) → Straight a w.state → (rounds : Bool) (p q : Vector) → place_seen a p ≡ place_seen a q
    → mdap_distance rounds w.state.round w.state.vectors p ≡ mdap_distance rounds w.state.round w.state.vectors q
unfolding mdap_distance
mdap_distance_seen a w straight rounds p q h =
    ap (λ (d : ℤ). cond rounds (rounding_step w.state.round d) (given (pos 0))) (from_origin_seen a w.state.vectors straight p q h)

outside_seen : (a : Axis) (at : ℕ) (w : World) (why : Refusal) → Same a (outside_mdap at (world_seen a w) why) (outside_mdap at w why)
unfolding outside_mdap
outside_seen a at w why =
    seen_by_test (lined_seen a) w.state.facts.pedantic (refused_seen a (world_again a w) why) (both_set_seen a at (world_seen a w) w (world_again a w))

pub mdap_seen : (a : Axis) → LineSeen a mdap_of
unfolding mdap_of
mdap_seen a f op operands w straight =
    let s = w.state in
    let zone = s.pointers.zp0 in
    let same = world_again a w in
    one_seen a same operands _ _ λ point.
    let at = index_of point in
    let end : World → Lined = λ v. done_in (on_both at v) in
    point_seen a _ _ _ _ (outside_seen a at w)
    (λ p q h. ap (λ (d : Tracked). lined_seen a (rounded_move_in zone d at (world_seen a w) end)) (mdap_distance_seen a w straight (rounds_in w op) p q h)
    ∙ rounded_seen a end end (both_set_seen a at) zone (mdap_distance (rounds_in w op) s.round s.vectors q) at same)
    zone at same

-- ---- a twilight point made, at places that look alike
x_put : (a : Axis) (xs : List ℤ) (at : ℕ) (p q : Vector) → place_seen a p ≡ place_seen a q → x_seen a (set xs at p.x) ≡ x_seen a (set xs at q.x)
x_put X xs at p q e = ap (λ (v : Vector). set xs at v.x) e
x_put Y xs at p q e = level_by (set xs at p.x) (set xs at q.x) (length-set xs at p.x ∙ sym (length-set xs at q.x))

y_put : (a : Axis) (ys : List ℤ) (at : ℕ) (p q : Vector) → place_seen a p ≡ place_seen a q → y_seen a (set ys at p.y) ≡ y_seen a (set ys at q.y)
y_put X ys at p q e = level_by (set ys at p.y) (set ys at q.y) (length-set ys at p.y ∙ sym (length-set ys at q.y))
y_put Y ys at p q e = ap (λ (v : Vector). set ys at v.y) e

pub made_alike : (a : Axis) (at : ℕ) (p q : Vector) (zone : ZonePointer) (w : World) → place_seen a p ≡ place_seen a q → world_seen a (made_in at p w zone) ≡ world_seen a (made_in at q w zone)
unfolding made_in
made_alike a at p q Glyph w e = refl
made_alike a at p q Twilight w e =
    ap₂ (λ (x y : List ℤ). world w.state (x_seen a w.gx) (y_seen a w.gy) w.gflags x y (x_seen a (set w.tx at p.x)) (y_seen a (set w.ty at p.y)) w.tflags)
    (x_put a w.tox at p q e) (y_put a w.toy at p q e)
    ∙ ap₂ (λ (x y : List ℤ). world w.state (x_seen a w.gx) (y_seen a w.gy) w.gflags (x_seen a (set w.tox at q.x)) (y_seen a (set w.toy at q.y)) x y w.tflags)
    (x_put a w.tx at p q e) (y_put a w.ty at p q e)

-- ---- MIAP
pub miap_seen : (a : Axis) → LineSeen a miap_of
unfolding miap_of
miap_seen a f op operands w straight =
    let s = w.state in
    let zone = s.pointers.zp0 in
    let same = world_again a w in
    two_seen a same operands _ _ λ entry point.
    control_seen a same f (index_of entry) _ _ λ control.
    let at = index_of point in
    let place = control_place s.vectors.freedom control in
    let made = made_seen a at place zone same in
    let distance : ℤ → Tracked = λ own. miap_distance (is_odd op) s.facts.native_clear_type_x s.round s.measures.cut_in control own in
    let end : World → Lined = λ v. done_in (on_both at v) in
    point_seen a _ _ _ _ (refused_seen a made)
    (λ p q h. ap (λ (own : ℤ). lined_seen a (rounded_move_in zone (distance own) at (made_in at place (world_seen a w) zone) end)) (from_origin_seen a s.vectors straight p q h)
    ∙ rounded_seen a end end (both_set_seen a at) zone (distance (from_origin s.vectors q)) at made)
    zone at made

-- ---- MSIRP
-- where a twilight point is made is seen along the axis
made_place_seen : (a : Axis) (v : Vectors) (d : ℤ) (p : Vector) → place_seen a (made_place v d (place_seen a p)) ≡ place_seen a (made_place v d p)
unfolding made_place
made_place_seen X v d p = refl
made_place_seen Y v d p = refl

made_place_alike : (a : Axis) (v : Vectors) (d : ℤ) (p q : Vector) → place_seen a p ≡ place_seen a q → place_seen a (made_place v d p) ≡ place_seen a (made_place v d q)
made_place_alike a v d p q h = sym (made_place_seen a v d p) ∙ ap (λ (r : Vector). place_seen a (made_place v d r)) h ∙ made_place_seen a v d q

-- by the rules from its own original or the reference point's
from_alike : (a : Axis) (rules : Rules) (p q r t : Vector) → place_seen a p ≡ place_seen a q → place_seen a r ≡ place_seen a t → place_seen a (made_from rules p r) ≡ place_seen a (made_from rules q t)
from_alike a Skrifa p q r t h k = h
from_alike a FreeType p q r t h k = k

abbrev from_in : Fixed → World → ZonePointer → ℕ → ℕ → Vector
from_in f w zp0 rp0 at = made_from f.rules (place_of w.tox w.toy at) (original_at f w zp0 rp0)

made_from_seen : (a : Axis) (f : Fixed) (v : Vectors) (d : ℤ) (zp0 : ZonePointer) (rp0 at : ℕ) (zone : ZonePointer) (w : World)
    → Alike a (made_in at (made_place v d (from_in (fixed_seen a f) (world_seen a w) zp0 rp0 at)) (world_seen a w) zone) (made_in at (made_place v d (from_in f w zp0 rp0 at)) w zone)
made_from_seen a f v d zp0 rp0 at zone w =
    let own = place_alike a w.tox w.toy at in
    let reference = original_alike a f (world_again a w) zp0 rp0 in
    record {
      seen =
          made_alike a at _ _ zone (world_seen a w) (made_place_alike a v d _ _ (from_alike a f.rules _ _ _ _ own reference))
          ∙ (made_seen a at (made_place v d (from_in f w zp0 rp0 at)) zone (world_again a w)).seen;
    }

-- what ends with the references set
pub related_seen : (a : Axis) (sets : Bool) (at : ℕ) (v w : World) → Alike a v w → Same a (done_in (related sets at v)) (done_in (related sets at w))
related_seen a sets at v w e = ap (λ (u : World). done_in (related sets at u)) e.seen

pub both_there_seen : (a : Axis) (at : ℕ) (w : World) (out out' : Refusal → Lined) (rest rest' : Lined) → ((why : Refusal) → Same a (out why) (out' why)) → Same a rest rest' → (zone : ZonePointer)
    → Same a (both_there at (world_seen a w) out rest zone) (both_there at w out' rest' zone)
unfolding both_there
both_there_seen a at w out out' rest rest' o h Glyph =
    let same = world_again a w in
    point_seen a _ _ _ _ o (λ p q k. point_seen a _ _ _ _ o (λ p q k. h) w.state.pointers.zp0 w.state.references.rp0 same) Glyph at same
both_there_seen a at w out out' rest rest' o h Twilight =
    let same = world_again a w in
    point_seen a _ _ _ _ o (λ p q k. point_seen a _ _ _ _ o (λ p q k. h) Twilight at same) w.state.pointers.zp0 w.state.references.rp0 same

pub msirp_seen : (a : Axis) → LineSeen a msirp_of
unfolding msirp_of
msirp_seen a f op operands w straight =
    let s = w.state in
    let zone = s.pointers.zp1 in
    two_seen a (world_again a w) operands _ _ λ distance point.
    let at = index_of point in
    let made = made_from_seen a f s.vectors distance s.pointers.zp0 s.references.rp0 at zone w in
    let end : World → Lined = λ v. done_in (related (is_odd op) at v) in
    both_there_seen a at w _ _ _ _ (passed_seen a (world_again a w))
    (point_seen a _ _ _ _ (refused_seen a made)
    (λ p q h. point_seen a _ _ _ _ (refused_seen a made)
    (λ r t k. ap (λ (d : ℤ). lined_seen a (move_in zone (sub32 distance d) at (made_in at (made_place s.vectors distance (from_in (fixed_seen a f) (world_seen a w) s.pointers.zp0 s.references.rp0 at)) (world_seen a w) zone) end)) (project_alike a s.vectors straight p q r t h k)
    ∙ move_seen a end end (related_seen a (is_odd op) at) zone (sub32 distance (project_of s.vectors q t)) at made)
    s.pointers.zp0 s.references.rp0 made)
    zone at made)
    zone

-- ---- ALIGNRP
align_point_level : (a : Axis) (z : ℤ) (w : World) → Straight a w.state → Same a (align_point z (world_seen a w)) (align_point z w)
align_point_level a z w straight =
    let s = w.state in
    let same = world_again a w in
    let at = index_of z in
    let zone = s.pointers.zp1 in
    point_seen a _ _ _ _ (refused_seen a same)
    (λ p q h. point_seen a _ _ _ _ (refused_seen a same)
    (λ r t k. ap (λ (d : ℤ). lined_seen a (move_in zone (neg32 d) at (world_seen a w) done_in)) (project_alike a s.vectors straight p q r t h k)
    ∙ move_seen a done_in done_in (done_seen a) zone (neg32 (project_of s.vectors q t)) at same)
    s.pointers.zp0 s.references.rp0 same)
    zone at same

pub alignrp_seen : (a : Axis) → LineSeen a alignrp_of
unfolding alignrp_of
alignrp_seen a f op operands w straight = looped_seen a align_point (align_point_level a) align_point_state operands w straight

-- ---- FLIPPT, FLIPRGON, FLIPRGOFF: they read no coordinate
flip_point_level : (a : Axis) (z : ℤ) (w : World) → Straight a w.state → Same a (flip_point z (world_seen a w)) (flip_point z w)
unfolding flip_point
flip_point_level a z w straight =
    let same = world_again a w in
    seen_by_test (lined_seen a) (past_both_iups w.state.facts) (done_seen a (world_seen a w) w same) (flags_seen a same (λ flags. flip_of flags (index_of z)))

pub flippt_seen : (a : Axis) → LineSeen a flippt_of
unfolding flippt_of
flippt_seen a f op operands w straight = looped_seen a flip_point (flip_point_level a) flip_point_state operands w straight

pub fliprg_seen : (a : Axis) → LineSeen a fliprg_of
unfolding fliprg_of
fliprg_seen a f op operands w straight =
    let same = world_again a w in
    two_seen a same operands _ _ λ high low.
    seen_by_test (lined_seen a) (held_fast w.state.facts (index_of high)) (done_seen a (world_seen a w) w same) (flags_seen a same (λ flags. set_through flags (index_of low) (index_of high) (is_odd op)))

-- ---- the shifts
by_displaced_seen : (a : Axis) (w : World) (rest rest' : Displacement → Lined) → ((d : Displacement) → Same a (rest d) (rest' d)) → (d : Result Displacement Refusal)
    → Same a (by_displaced (world_seen a w) rest d) (by_displaced w rest' d)
by_displaced_seen a w rest rest' h (Ok d) = h d
by_displaced_seen a w rest rest' h (Err why) = refused_seen a (world_again a w) why

-- how far the reference point was moved is read along the axis
reference_seen : (a : Axis) (f : Fixed) (op : ℕ) (w : World) → Straight a w.state → (rest rest' : Displacement → Lined) → ((d : Displacement) → Same a (rest d) (rest' d))
    → Same a (reference_in (fixed_seen a f) op (world_seen a w) rest) (reference_in f op w rest')
unfolding reference_in
reference_seen a f op w straight rest rest' h =
    let p = reference_of w.state op in
    ap (λ (d : Result Displacement Refusal). lined_seen a (by_displaced (world_seen a w) rest d))
    (displaced_seen a w.state.vectors straight p f.gox f.goy w.gx w.gy w.tox w.toy w.tx w.ty p.zone)
    ∙ by_displaced_seen a w rest rest' h (reference_moved f op w)

shift_point_level : (a : Axis) (m : Move) (z : ℤ) (w : World) → Straight a w.state → Same a (shift_point m z (world_seen a w)) (shift_point m z w)
unfolding shift_point
shift_point_level a m z w straight =
    let same = world_again a w in
    seen_by_test (lined_seen a) (is_idle m) (done_seen a (world_seen a w) w same) (laid_seen a done_in done_in (done_seen a) w.state.pointers.zp2 m (index_of z) same)

pub shp_seen : (a : Axis) → LineSeen a shp_of
unfolding shp_of
shp_seen a f op operands w straight =
    reference_seen a f op w straight _ _ λ d.
    let m = zp2_move_of w.state.vectors w.state.facts d.dx d.dy true in
    looped_seen a (shift_point m) (shift_point_level a m) (shift_point_state m) operands w straight

pub shpix_seen : (a : Axis) → LineSeen a shpix_of
unfolding shpix_of
shpix_seen a f op operands w straight =
    let same = world_again a w in
    seen_by_test (lined_seen a) w.state.facts.backward_compatibility (refused_seen a same Compatibility)
    (first_seen a same operands _ _ λ amount points.
    let m = pixel_move w.state.vectors w.state.facts amount in
    looped_seen a (shift_point m) (shift_point_level a m) (shift_point_state m) points w straight)

shift_but_level : (a : Axis) (m : Move) (keeps : Bool) (kept : ℕ) (z : ℤ) (w : World) → Straight a w.state → Same a (shift_but m keeps kept z (world_seen a w)) (shift_but m keeps kept z w)
unfolding shift_but
shift_but_level a m keeps kept z w straight =
    seen_by_test (lined_seen a) (keeps && eqb (index_of z) kept) (done_seen a (world_seen a w) w (world_again a w)) (shift_point_level a m z w straight)

span_seen : (a : Axis) (f : Fixed) (op : ℕ) (touches : Bool) (start end : ℕ) (w : World) → Straight a w.state
    → Same a (span_in (fixed_seen a f) op touches start end (world_seen a w)) (span_in f op touches start end w)
unfolding span_in
span_seen a f op touches start end w straight =
    reference_seen a f op w straight _ _ λ d.
    let m = zp2_move_of w.state.vectors w.state.facts d.dx d.dy touches in
    let keeps = same_zone d.zone w.state.pointers.zp2 in
    each_seen a (shift_but m keeps d.at) (shift_but_level a m keeps d.at) (shift_but_state m keeps d.at) (end - start) (points_from start (end - start)) (world_seen a w) w (world_again a w) straight

pub shc_seen : (a : Axis) → LineSeen a shc_of
unfolding shc_of
shc_seen a f op operands w straight =
    let same = world_again a w in
    let zone = w.state.pointers.zp2 in
    one_seen a same operands _ _ λ contour.
    let index = index_of contour in
    seen_by_test (lined_seen a) (ltb index (size_of (length f.contours) 1 zone))
    (ap (λ (n : ℕ). lined_seen a (span_in (fixed_seen a f) op true (point_after f.contours index) (size_of (point_after f.contours (suc index)) n zone) (world_seen a w))) (x_length a w.tx)
    ∙ span_seen a f op true (point_after f.contours index) (size_of (point_after f.contours (suc index)) (length w.tx) zone) w straight)
    (passed_seen a same (Contour index))

pub shz_seen : (a : Axis) → LineSeen a shz_of
unfolding shz_of
shz_seen a f op operands w straight =
    let same = world_again a w in
    let zp2 = w.state.pointers.zp2 in
    one_seen a same operands _ _ λ zone.
    seen_by_test (lined_seen a) (ltb 1 (index_of zone)) (refused_seen a same (BadZone (index_of zone)))
    (ap (λ (n : ℕ). lined_seen a (span_in (fixed_seen a f) op false 0 (size_of (point_after f.contours (length f.contours)) n zp2) (world_seen a w))) (x_length a w.tx)
    ∙ span_seen a f op false 0 (size_of (point_after f.contours (length f.contours)) (length w.tx) zp2) w straight)

-- ---- IUP
walked_seen : (a : Axis) (f : Fixed) (w : World) (odd : Bool) → world_seen a (walked_in (fixed_seen a f) (world_seen a w) odd) ≡ world_seen a (walked_in f w odd)
walked_seen X f w true = ap (λ (u : World). with_x u (iup_of X w.gflags f.contours f.gux f.gox w.gx)) (world_again X w).seen
walked_seen X f w false =
    ap (λ (u : World). with_y u (leveled (iup_of Y w.gflags f.contours (y_seen X f.guy) (y_seen X f.goy) (y_seen X w.gy)))) (world_again X w).seen
    ∙ ap (with_y (world_seen X w)) (across Y w.gflags f.contours f.guy f.goy w.gy)
walked_seen Y f w true =
    ap (λ (u : World). with_x u (leveled (iup_of X w.gflags f.contours (x_seen Y f.gux) (x_seen Y f.gox) (x_seen Y w.gx)))) (world_again Y w).seen
    ∙ ap (with_x (world_seen Y w)) (across X w.gflags f.contours f.gux f.gox w.gx)
walked_seen Y f w false = ap (λ (u : World). with_y u (iup_of Y w.gflags f.contours f.guy f.goy w.gy)) (world_again Y w).seen

pub iup_seen : (a : Axis) → LineSeen a iup_line_of
unfolding iup_line_of
iup_seen a f op operands w straight =
    ap done_in (seen_by_test (world_seen a) (past_both_iups w.state.facts) (world_again a w).seen (walked_seen a f (in_state w (marked_for w.state op)) (is_odd op)))
