-- GC, MD, MDRP and MIRP seen along an axis: with the vectors along it, what they measure in the original outline reads no coordinate across, and what they push and move is seen as if every
-- coordinate across were 0. Assumes nothing.
use Rattle.std.specs.Prelude.{Result, Ok, Err}
use Prim.Native.Nat.{ℕ, ◌-◌}
use mathlib.Core.Bool.{Bool, ◌&&◌, ◌||◌, cond}
use mathlib.Core.List.{List}
use mathlib.Core.Path.{◌≡◌, ap, ap₂, refl, sym, ◌∙◌}
use lib.Dec.{eqb, leb, ltb}
use lib.IntN.{ℤ, pos}
use lib.ListN.{get_or, length}
use Rattle.answer.specs.declared.Refusal.TheVariants.{ControlValue}
use Rattle.answer.specs.declared.Refusal.{Refusal}
use Rattle.flags.specs.declared.Axis.TheVariants.{X, Y}
use Rattle.flags.specs.declared.Axis.{Axis}
use Rattle.graphics.specs.State.{all_along, is_twilight}
use Rattle.graphics.specs.declared.Vector.{Vector}
use Rattle.graphics.specs.declared.Vectors.{Vectors}
use Rattle.graphics.specs.declared.ZonePointer.TheVariants.{Glyph, Twilight}
use Rattle.graphics.specs.declared.ZonePointer.{ZonePointer}
use Rattle.int.specs.Word.{add32, index_of}
use Rattle.line.specs.Operands.{is_odd}
use Rattle.line.specs.Places.{fetch_in, place_in}
use Rattle.line.specs.World.{Fixed, Lined, World}
use Rattle.line_distance.specs.Distance.{sets_rp0, single_control}
use Rattle.line_distance.specs.Outline.{originals_apart, outline_in, outline_of, unscaled_apart}
use Rattle.line_mdrp.specs.Mdrp.{mdrp_distance, mdrp_of}
use Rattle.line_measure.specs.Measure.{gc_of, md_of, md_original, original_or, pushes, zero_or}
use Rattle.line_mirp.specs.Mirp.{control_by, mirp_distance, mirp_of, mirp_place, same_zone}
use Rattle.line_relative.specs.Relative.{related, related_or}
use Rattle.line_steps.specs.Numbers.{from_origin, origin, step_from}
use Rattle.line_steps.specs.Steps.{done_in, made_in, point_or, refused_in, rounded_move_in}
use Rattle.math.specs.Fixed.{mul_fix}
use Rattle.projection.specs.Projection.{dual_project_of, project_of}
use Rattle.round.specs.declared.Tracked.{Tracked}
use Rattle.zone.specs.Zone.{fetch_of, place_of}
use Rattle.laws_axes.specs.Axes.{Straight, fixed_seen, lined_seen, unit_of, world_seen, x_seen, y_seen}
use Rattle.laws_axes.proofs.Lines.{LineSeen, both_there_seen, made_alike, project_alike, related_seen}
use Rattle.laws_axes.proofs.Seen.{fetch_seen, fetched_seen, place_seen_lem, place_seen, seen_by_test, x_length}
use Rattle.laws_axes.proofs.Steps.{Alike, Same, original_alike, original_at, place_alike, by_fetched_seen, from_origin_seen, made_seen, one_seen, point_seen, refused_seen, rounded_seen, two_seen, world_again}

-- ---- a distance along the dual vector, between places that look alike
pub dual_alike : (a : Axis) (v : Vectors) → v ≡ all_along (unit_of a) → (p q r s : Vector) → place_seen a p ≡ place_seen a q → place_seen a r ≡ place_seen a s → dual_project_of v p r ≡ dual_project_of v q s
dual_alike a v e p q r s h k =
    ap (λ (u : Vectors). dual_project_of u p r) e ∙ project_alike a (all_along (unit_of a)) refl p q r s h k ∙ sym (ap (λ (u : Vectors). dual_project_of u q s) e)

-- ---- original points
fetched_again : (a : Axis) (g : Result Vector Refusal) → fetched_seen a (fetched_seen a g) ≡ fetched_seen a g
fetched_again X (Ok p) = refl
fetched_again Y (Ok p) = refl
fetched_again a (Err why) = refl

abbrev fetched_at : Fixed → World → ZonePointer → ℕ → Result Vector Refusal
fetched_at f w zone at = fetch_in at f.gox f.goy w.tox w.toy zone

module _ (a : Axis) (f : Fixed) {v w : World} (e : Alike a v w) where
  fetched_alike : (zone : ZonePointer) (at : ℕ) → fetched_seen a (fetched_at (fixed_seen a f) v zone at) ≡ fetched_seen a (fetched_at f w zone at)
  unfolding fetch_in
  fetched_alike Glyph at = ap (fetched_seen a) (fetch_seen a f.gox f.goy at) ∙ fetched_again a (fetch_of f.gox f.goy at)
  fetched_alike Twilight at = sym (fetch_seen a v.tox v.toy at) ∙ ap (λ (u : World). fetch_in at u.gx u.gy u.tox u.toy Twilight) e.seen ∙ fetch_seen a w.tox w.toy at

  pub original_seen : (zone : ZonePointer) (at : ℕ) (out out' : Refusal → Lined) (rest rest' : Vector → Lined) → ((why : Refusal) → Same a (out why) (out' why))
      → ((p q : Vector) → place_seen a p ≡ place_seen a q → Same a (rest p) (rest' q)) → Same a (original_or (fixed_seen a f) zone at v out rest) (original_or f zone at w out' rest')
  unfolding original_or
  original_seen zone at out out' rest rest' o h = by_fetched_seen a out out' rest rest' o h (fetched_at (fixed_seen a f) v zone at) (fetched_at f w zone at) (fetched_alike zone at)

  pub originals_seen : (u : Vectors) → u ≡ all_along (unit_of a) → (p : ZonePointer) (i : ℕ) (q : ZonePointer) (j : ℕ)
      → originals_apart u.dual p i q j (x_seen a f.gox) (y_seen a f.goy) v.tox v.toy ≡ originals_apart u.dual p i q j f.gox f.goy w.tox w.toy
  unfolding originals_apart
  originals_seen u straight p i q j = dual_alike a u straight _ _ _ _ (original_alike a f e p i) (original_alike a f e q j)

-- ---- the outline
outline_seen : (a : Axis) (f : Fixed) (w : World) → Straight a w.state → (p : ZonePointer) (i : ℕ) (q : ZonePointer) (j : ℕ)
    → outline_in (fixed_seen a f) (world_seen a w) p i q j ≡ outline_in f w p i q j
unfolding outline_of unscaled_apart
outline_seen a f w straight p i q j =
    ap₂ (cond (is_twilight p || is_twilight q)) (originals_seen a f (world_again a w) w.state.vectors straight p i q j)
    (ap (λ (d : ℤ). mul_fix d w.state.measures.scale) (dual_alike a w.state.vectors straight _ _ _ _ (place_alike a f.gux f.guy i) (place_alike a f.gux f.guy j)))

-- ---- GC and MD
module _ (a : Axis) (w : World) where
  same : Alike a (world_seen a w) w
  same = world_again a w

  pushes_seen : (d d' : ℤ) → d ≡ d' → Same a (pushes d (world_seen a w)) (pushes d' w)
  pushes_seen d d' e = ap (λ (value : ℤ). lined_seen a (pushes value (world_seen a w))) e ∙ ap (pushes d') same.seen

  zero_seen : (why : Refusal) → Same a (zero_or (world_seen a w) why) (zero_or w why)
  unfolding zero_or
  zero_seen why = seen_by_test (lined_seen a) w.state.facts.pedantic (refused_seen a same why) (pushes_seen (pos 0) (pos 0) refl)

pub gc_seen : (a : Axis) → LineSeen a gc_of
unfolding gc_of
gc_seen a f op operands w straight =
    let s = w.state in
    let zone = s.pointers.zp2 in
    one_seen a (same a w) operands _ _ λ point.
    let at = index_of point in
    seen_by_test (lined_seen a) (is_odd op)
    (original_seen a f (same a w) zone at _ _ _ _ (zero_seen a w) λ p q h. pushes_seen a w _ _ (dual_alike a s.vectors straight p q origin origin h refl))
    (point_seen a _ _ _ _ (zero_seen a w) (λ p q h. pushes_seen a w _ _ (from_origin_seen a s.vectors straight p q h)) zone at (same a w))

md_original_seen : (a : Axis) (f : Fixed) (w : World) → Straight a w.state → (i j : ℕ) → Same a (md_original (fixed_seen a f) i j (world_seen a w)) (md_original f i j w)
unfolding md_original
md_original_seen a f w straight i j =
    let p = w.state.pointers.zp0 in
    let q = w.state.pointers.zp1 in
    let measured = pushes_seen a w _ _ (outline_seen a f w straight p i q j) in
    let pedantic = w.state.facts.pedantic in
    seen_by_test (lined_seen a) (is_twilight p || is_twilight q)
    (original_seen a f (same a w) p i _ _ _ _ (zero_seen a w) λ _ _ _. original_seen a f (same a w) q j _ _ _ _ (zero_seen a w) λ _ _ _. measured)
    (ap (λ (n : ℕ). lined_seen a (cond (pedantic || (ltb i n && ltb j n)) (pushes (outline_in (fixed_seen a f) (world_seen a w) p i q j) (world_seen a w)) (pushes (pos 0) (world_seen a w)))) (x_length a f.gux)
    ∙ seen_by_test (lined_seen a) (pedantic || (ltb i (length f.gux) && ltb j (length f.gux))) measured (pushes_seen a w (pos 0) (pos 0) refl))

pub md_seen : (a : Axis) → LineSeen a md_of
unfolding md_of
md_seen a f op operands w straight =
    let s = w.state in
    two_seen a (same a w) operands _ _ λ from to.
    seen_by_test (lined_seen a) (is_odd op)
    (point_seen a _ _ _ _ (zero_seen a w)
    (λ p q h. point_seen a _ _ _ _ (zero_seen a w) (λ r t k. pushes_seen a w _ _ (project_alike a s.vectors straight p q r t h k)) s.pointers.zp1 (index_of from) (same a w))
    s.pointers.zp0 (index_of to) (same a w))
    (md_original_seen a f w straight (index_of to) (index_of from))

-- ---- MDRP
related_or_seen : (a : Axis) (sets : Bool) (at : ℕ) (w : World) (why : Refusal) → Same a (related_or sets at (world_seen a w) why) (related_or sets at w why)
unfolding related_or
related_or_seen a sets at w why =
    seen_by_test (lined_seen a) w.state.facts.pedantic (refused_seen a (same a w) why) (related_seen a sets at (world_seen a w) w (same a w))

-- a point brought to a distance from rp0, and the references set
abbrev brought : Vectors → Bool → (ℤ → Tracked) → ZonePointer → ℕ → ZonePointer → ℕ → (Refusal → Lined) → ℤ → World → Lined
brought u sets wanted zp1 at zp0 rp0 out apart v =
    point_or zp1 at v out λ place.
    point_or zp0 rp0 v out λ reference.
    rounded_move_in zp1 (step_from (project_of u place reference) (wanted apart)) at v λ moved.
    done_in (related sets at moved)

brought_seen : (a : Axis) (u : Vectors) → u ≡ all_along (unit_of a) → (sets : Bool) (wanted : ℤ → Tracked) (zp1 : ZonePointer) (at : ℕ) (zp0 : ZonePointer) (rp0 : ℕ) (out out' : Refusal → Lined)
    → ((why : Refusal) → Same a (out why) (out' why)) → (apart apart' : ℤ) → apart ≡ apart' → {v w : World} → Alike a v w
    → Same a (brought u sets wanted zp1 at zp0 rp0 out apart v) (brought u sets wanted zp1 at zp0 rp0 out' apart' w)
brought_seen a u straight sets wanted zp1 at zp0 rp0 out out' o apart apart' d {v = v} {w = w} e =
    let end : World → Lined = λ x. done_in (related sets at x) in
    point_seen a out out' _ _ o
    (λ p q h. point_seen a out out' _ _ o
    (λ r t k. ap₂ (λ (own apart : ℤ). lined_seen a (rounded_move_in zp1 (step_from own (wanted apart)) at v end)) (project_alike a u straight p q r t h k) d
    ∙ rounded_seen a end end (related_seen a sets at) zp1 (step_from (project_of u q t) (wanted apart')) at e)
    zp0 rp0 e)
    zp1 at e

pub mdrp_seen : (a : Axis) → LineSeen a mdrp_of
unfolding mdrp_of
mdrp_seen a f op operands w straight =
    let s = w.state in
    let zp0 = s.pointers.zp0 in
    let zp1 = s.pointers.zp1 in
    let rp0 = s.references.rp0 in
    one_seen a (same a w) operands _ _ λ point.
    let at = index_of point in
    brought_seen a s.vectors straight (sets_rp0 op) (mdrp_distance op s.facts.native_clear_type_x s.round s.measures) zp1 at zp0 rp0 _ _ (related_or_seen a (sets_rp0 op) at w) _ _
    (outline_seen a f w straight zp1 at zp0 rp0)
    (same a w)

-- ---- MIRP
control_by_seen : (a : Axis) (f : Fixed) (next : ℕ) (out out' : Refusal → Lined) (rest rest' : ℤ → Lined) → ((why : Refusal) → Same a (out why) (out' why)) → ((z : ℤ) → Same a (rest z) (rest' z))
    → Same a (control_by (fixed_seen a f) next out rest) (control_by f next out' rest')
unfolding control_by
control_by_seen a f next out out' rest rest' o h =
    seen_by_test (lined_seen a) (eqb next 0) (h (pos 0))
    (seen_by_test (lined_seen a) (leb next (length f.controls)) (h (get_or f.controls (next - 1) (pos 0))) (o (ControlValue (next - 1))))

-- where a twilight point is made is seen along the axis
mirp_place_alike : (a : Axis) (freedom : Vector) (control : ℤ) (p q : Vector) → place_seen a p ≡ place_seen a q → place_seen a (mirp_place freedom control p) ≡ place_seen a (mirp_place freedom control q)
unfolding mirp_place
mirp_place_alike X freedom control p q h = ap (λ (r : Vector). record { x = add32 r.x (mul_fix control freedom.x); y = pos 0 }) h
mirp_place_alike Y freedom control p q h = ap (λ (r : Vector). record { x = pos 0; y = add32 r.y (mul_fix control freedom.y) }) h

made_by_seen : (a : Axis) (f : Fixed) (freedom : Vector) (control : ℤ) (zp0 : ZonePointer) (rp0 at : ℕ) (zone : ZonePointer) (w : World)
    → Alike a (made_in at (mirp_place freedom control (original_at (fixed_seen a f) (world_seen a w) zp0 rp0)) (world_seen a w) zone) (made_in at (mirp_place freedom control (original_at f w zp0 rp0)) w zone)
made_by_seen a f freedom control zp0 rp0 at zone w =
    record {
      seen =
          made_alike a at _ _ zone (world_seen a w) (mirp_place_alike a freedom control _ _ (original_alike a f (same a w) zp0 rp0))
          ∙ (made_seen a at (mirp_place freedom control (original_at f w zp0 rp0)) zone (same a w)).seen;
    }

-- what MIRP does with its control value
module _ (a : Axis) (f : Fixed) (op at : ℕ) (w : World) (straight : Straight a w.state) (control : ℤ) where
  abbrev made_for : Fixed → World → World
  made_for g v = let s = v.state in
      made_in at (mirp_place s.vectors.freedom control (original_at g v s.pointers.zp0 s.references.rp0)) v s.pointers.zp1

  abbrev apart_for : Fixed → World → ℤ
  apart_for g v = let s = v.state in
      originals_apart s.vectors.dual s.pointers.zp1 at s.pointers.zp0 s.references.rp0 g.gox g.goy (made_for g v).tox (made_for g v).toy

  by_control : Fixed → World → Lined
  by_control g v = let s = v.state in
      brought s.vectors (sets_rp0 op) (mirp_distance op (same_zone s.pointers.zp0 s.pointers.zp1) s.facts.native_clear_type_x s.round s.measures control) s.pointers.zp1 at s.pointers.zp0 s.references.rp0 (refused_in (made_for g v)) (apart_for g v) (made_for g v)

  by_control_seen : Same a (by_control (fixed_seen a f) (world_seen a w)) (by_control f w)
  unfolding by_control
  by_control_seen =
      let s = w.state in
      let zp0 = s.pointers.zp0 in
      let zp1 = s.pointers.zp1 in
      let rp0 = s.references.rp0 in
      let alike = made_by_seen a f s.vectors.freedom control zp0 rp0 at zp1 w in
      brought_seen a s.vectors straight (sets_rp0 op) (mirp_distance op (same_zone zp0 zp1) s.facts.native_clear_type_x s.round s.measures control) zp1 at zp0 rp0
      (refused_in (made_for (fixed_seen a f) (world_seen a w))) (refused_in (made_for f w)) (refused_seen a alike)
      (apart_for (fixed_seen a f) (world_seen a w)) (apart_for f w)
      (originals_seen a f alike s.vectors straight zp1 at zp0 rp0)
      alike

pub mirp_seen : (a : Axis) → LineSeen a mirp_of
unfolding mirp_of by_control
mirp_seen a f op operands w straight =
    let s = w.state in
    two_seen a (same a w) operands _ _ λ entry point.
    let at = index_of point in
    let sets = sets_rp0 op in
    control_by_seen a f _ _ _ _ _ (related_or_seen a sets at w) λ value.
    let control = single_control s.measures.single_width_cut_in s.measures.single_width value in
    both_there_seen a at w (related_or sets at (world_seen a w)) (related_or sets at w) (by_control a f op at w straight control (fixed_seen a f) (world_seen a w)) (by_control a f op at w straight control f w)
    (related_or_seen a sets at w)
    (by_control_seen a f op at w straight control)
    s.pointers.zp1
