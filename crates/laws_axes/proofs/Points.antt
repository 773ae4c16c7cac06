-- ALIGNPTS, UTP and IP seen along an axis: with the vectors along it, what they measure reads no coordinate across, and what they move or untouch is
-- seen as if every coordinate across were 0. Assumes nothing.
use Prim.Native.Nat.{ℕ}
use mathlib.Core.Bool.{Bool}
use mathlib.Core.Path.{◌≡◌, ap, ap₂, refl, ◌∙◌}
use lib.IntN.{ℤ, pos}
use Rattle.flags.specs.declared.Axis.{Axis}
use Rattle.graphics.specs.State.{all_along, with_loop_counter}
use Rattle.graphics.specs.declared.GraphicsState.{GraphicsState}
use Rattle.graphics.specs.declared.Vector.{Vector}
use Rattle.graphics.specs.declared.Vectors.{Vectors}
use Rattle.graphics.specs.declared.ZonePointer.TheVariants.{Glyph, Twilight}
use Rattle.graphics.specs.declared.ZonePointer.{ZonePointer}
use Rattle.int.specs.Word.{index_of, neg32, quot32, sub32}
use Rattle.laws_lines.proofs.Stays.{interpolate_state}
use Rattle.line.specs.World.{Fixed, Lined, World}
use Rattle.line_alignpts.specs.Alignpts.{alignpts_of, both_moved_by, half_of}
use Rattle.line_ip.specs.Ip.{any_twilight, distance_left, interpolate, ip_of, outline_in, outline_place, stretch_of, stretched}
use Rattle.line_ip.specs.declared.Stretch.{Stretch}
use Rattle.line_steps.specs.Steps.{done_in, move_in}
use Rattle.line_utp.specs.Utp.{twilight_flags_in, untouch_in, untouched_by, utp_of}
use Rattle.moves.specs.Move.{is_not0}
use Rattle.projection.specs.Projection.{dual_project_of}
use Rattle.laws_axes.specs.Axes.{Straight, fixed_seen, lined_seen, unit_of, world_seen}
use Rattle.laws_axes.proofs.Distances.{dual_alike}
use Rattle.laws_axes.proofs.Lines.{LineSeen, project_alike}
use Rattle.laws_axes.proofs.Seen.{place_seen, seen_by_test}
use Rattle.laws_axes.proofs.Steps.{Alike, Same, done_seen, each_alike, flags_seen, move_seen, one_seen, original_alike, passed_seen, place_alike, point_seen, refused_seen, state_seen, step_alike, two_seen, world_again}

-- ---- ALIGNPTS
both_moved_seen : (a : Axis) (half : ℤ) (first second : ℕ) (w : World) → Same a (both_moved_by half first second (world_seen a w)) (both_moved_by half first second w)
unfolding both_moved_by
both_moved_seen a half first second w =
    let p = w.state.pointers in
    move_seen a _ _ (λ v u e. move_seen a done_in done_in (done_seen a) p.zp0 (neg32 half) first e) p.zp1 half second (world_again a w)

pub alignpts_seen : (a : Axis) → LineSeen a alignpts_of
unfolding alignpts_of
alignpts_seen a f op operands w straight =
    let s = w.state in
    let same = world_again a w in
    two_seen a same operands _ _ λ first second.
    point_seen a _ _ _ _ (refused_seen a same)
    (λ p q h. point_seen a _ _ _ _ (refused_seen a same)
    (λ r t k. ap (λ (d : ℤ). lined_seen a (both_moved_by (quot32 d (pos 2)) (index_of first) (index_of second) (world_seen a w))) (project_alike a s.vectors straight p q r t h k)
    ∙ both_moved_seen a (half_of s.vectors q t) (index_of first) (index_of second) w)
    s.pointers.zp1 (index_of second) same)
    s.pointers.zp0 (index_of first) same

-- ---- UTP: it reads no coordinate
untouch_seen : (a : Axis) (at : ℕ) (x y : Bool) (w : World) (zone : ZonePointer) → Same a (untouch_in at x y (world_seen a w) zone) (untouch_in at x y w zone)
unfolding untouch_in
untouch_seen a at x y w Glyph = flags_seen a (world_again a w) (λ flags. untouched_by flags at x y)
untouch_seen a at x y w Twilight = ap (λ (u : World). twilight_flags_in u (untouched_by u.tflags at x y)) (world_again a w).seen

pub utp_seen : (a : Axis) → LineSeen a utp_of
unfolding utp_of
utp_seen a f op operands w straight =
    let freedom = w.state.vectors.freedom in
    one_seen a (world_again a w) operands _ _ λ point.
    untouch_seen a (index_of point) (is_not0 freedom.x) (is_not0 freedom.y) w w.state.pointers.zp0

-- ---- IP
-- where a point lay in the original outline
outline_alike : (a : Axis) (f : Fixed) (w : World) (zone : ZonePointer) (at : ℕ) → place_seen a (outline_in (fixed_seen a f) (world_seen a w) zone at) ≡ place_seen a (outline_in f w zone at)
unfolding outline_place
outline_alike a f w zone at = seen_by_test (place_seen a) (any_twilight w.state.pointers) (original_alike a f (world_again a w) zone at) (place_alike a f.gux f.guy at)

-- two stretches that look alike, and measure the same
record Stretches (a : Axis) (t t' : Stretch) : Type 0 where
  original : place_seen a t.original ≡ place_seen a t'.original
  current : place_seen a t.current ≡ place_seen a t'.current
  was : t.was ≡ t'.was
  is : t.is ≡ t'.is

stretch_alike : (a : Axis) (v : Vectors) → v ≡ all_along (unit_of a) → (o o' g g' p q r s : Vector) → place_seen a o ≡ place_seen a o' → place_seen a g ≡ place_seen a g' → place_seen a p ≡ place_seen a q
    → place_seen a r ≡ place_seen a s → Stretches a (stretch_of v o g p r) (stretch_of v o' g' q s)
unfolding stretch_of
stretch_alike a v straight o o' g g' p q r s h k i j =
    record { original = h; current = i; was = dual_alike a v straight g g' o o' k h; is = project_alike a v straight r s p q j i }

left_alike : (a : Axis) (v : Vectors) → v ≡ all_along (unit_of a) → {t t' : Stretch} → Stretches a t t' → (o o' p q : Vector) → place_seen a o ≡ place_seen a o' → place_seen a p ≡ place_seen a q
    → distance_left v t o p ≡ distance_left v t' o' q
unfolding distance_left
left_alike a v straight {t} {t'} e o o' p q h k =
    ap₂ sub32
    (ap₂ (λ (was is : ℤ). stretched was is (dual_project_of v o t.original)) e.was e.is
    ∙ ap (stretched t'.was t'.is) (dual_alike a v straight o o' t.original t'.original h e.original))
    (project_alike a v straight p q t.current t'.current k e.current)

module _ (a : Axis) (outline outline' : ℕ → Vector) (alike : (at : ℕ) → place_seen a (outline at) ≡ place_seen a (outline' at)) {t t' : Stretch} (e : Stretches a t t') where
  interpolate_level : (z : ℤ) (w : World) → Straight a w.state → Same a (interpolate outline t z (world_seen a w)) (interpolate outline' t' z w)
  unfolding interpolate
  interpolate_level z w straight =
      let s = w.state in
      let same = world_again a w in
      let at = index_of z in
      let zone = s.pointers.zp2 in
      point_seen a _ _ _ _ (passed_seen a same)
      (λ p q h. ap (λ (d : ℤ). lined_seen a (move_in zone d at (world_seen a w) done_in)) (left_alike a s.vectors straight e (outline at) (outline' at) p q (alike at) h)
      ∙ move_seen a done_in done_in (done_seen a) zone (distance_left s.vectors t' (outline' at) q) at same)
      zone at same

interpolate_alike : (a : Axis) (outline outline' : ℕ → Vector) → ((at : ℕ) → place_seen a (outline at) ≡ place_seen a (outline' at)) → {t t' : Stretch} → Stretches a t t'
    → (z : ℤ) (v w : World) → Alike a v w → Straight a w.state → Same a (interpolate outline t z v) (interpolate outline' t' z w)
interpolate_alike a outline outline' alike {t} {t'} e =
    step_alike a (interpolate outline t) (interpolate outline' t')
    (interpolate_level a outline outline (λ at. refl) (record { original = refl; current = refl; was = refl; is = refl }))
    (interpolate_level a outline outline' alike e)

pub ip_seen : (a : Axis) → LineSeen a ip_of
unfolding ip_of
ip_seen a f op operands w straight =
    let s = w.state in
    let zp0 = s.pointers.zp0 in
    let zp1 = s.pointers.zp1 in
    let zp2 = s.pointers.zp2 in
    let rp1 = s.references.rp1 in
    let rp2 = s.references.rp2 in
    let seen = outline_in (fixed_seen a f) (world_seen a w) in
    let outline = outline_in f w in
    let same = state_seen a (world_again a w) (λ (t : GraphicsState). with_loop_counter t 1) in
    point_seen a _ _ _ _ (passed_seen a same)
    (λ p q h. point_seen a _ _ _ _ (passed_seen a same)
    (λ r t k. each_alike a _ _
    (interpolate_alike a (seen zp2) (outline zp2) (outline_alike a f w zp2)
    (stretch_alike a s.vectors straight (seen zp0 rp1) (outline zp0 rp1) (seen zp1 rp2) (outline zp1 rp2) p q r t (outline_alike a f w zp0 rp1) (outline_alike a f w zp1 rp2) h k))
    (interpolate_state (outline zp2) _)
    s.loop_counter operands _ _ same straight)
    zp1 rp2 same)
    zp0 rp1 same
