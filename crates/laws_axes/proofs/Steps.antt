-- The steps of a line, seen along an axis: from worlds that look alike they come to outcomes that look alike, where the rest of the line does. Assumes
-- nothing.
use Rattle.std.specs.Prelude.{⊤, Result, Ok, Err}
use Prim.Native.Nat.{ℕ, suc, zero}
use mathlib.Core.Bool.{Bool}
use mathlib.Core.List.{List, [], ◌∷◌}
use mathlib.Core.Path.{◌≡◌, ap, ap₂, refl, sym, ◌∙◌}
use native.Mathlib.Omega.{arith}
use lib.Dec.{ltb}
use lib.IntN.{ℤ, pos}
use lib.ListN.{get_or, length, set}
use Rattle.round.specs.declared.Tracked.{Tracked}
use Rattle.answer.specs.declared.Refusal.TheVariants.{ControlValue, Missing}
use Rattle.answer.specs.declared.Refusal.{Refusal}
use Rattle.laws_axes.proofs.Seen.{apply_seen, fetch_seen, fetched_seen, moved_seen, place_seen_lem, place_seen, project_seen, seen_by_test, x_again, x_set, y_again, y_set}
use Rattle.laws_axes.specs.Axes.{Straight, fixed_seen, lined_seen, unit_of, world_seen, x_seen, y_seen}
use Rattle.flags.specs.declared.Axis.TheVariants.{X, Y}
use Rattle.flags.specs.declared.Axis.{Axis}
use Rattle.graphics.specs.State.{all_along, with_loop_counter}
use Rattle.graphics.specs.declared.GraphicsState.{GraphicsState}
use Rattle.graphics.specs.declared.Vector.{Vector}
use Rattle.graphics.specs.declared.Vectors.{Vectors}
use Rattle.graphics.specs.declared.ZonePointer.TheVariants.{Glyph, Twilight}
use Rattle.graphics.specs.declared.ZonePointer.{ZonePointer}
use Rattle.line_steps.specs.Numbers.{from_origin, origin}
use Rattle.line_steps.specs.Steps.{by_call, by_displaced, by_fetched, control_at, reference_in, reference_moved, done_in, each_in, first, flags_in, in_state, laid_in, looped, made_in, move_in, one, passed_over, point_or, refused_in, rounded_in, rounded_move_in, shift_point, two, with_points}
use Rattle.moves.specs.Apply.{Moved, apply_in, apply_of}
use Rattle.moves.specs.Move.{move_of}
use Rattle.moves.specs.declared.Move.{Move}
use Rattle.line.specs.Places.{fetch_in, place_in}
use Rattle.projection.specs.Projection.{project_of}
use Rattle.line.specs.World.{Fixed, Lined, World, lined, world}
use Rattle.zone.specs.Zone.{Marked, place_of}

-- ---- alike
pub record Alike (a : Axis) (v w : World) : Type 0 where
  pub seen : world_seen a v ≡ world_seen a w

abbrev pub Same : Axis → Lined → Lined → Type 0
Same a l k = lined_seen a l ≡ lined_seen a k

level_again : (a : Axis) (w : World) → world_seen a (world_seen a w) ≡ world_seen a w
level_again a w =
    ap₂ (λ (x y : List ℤ). world w.state x y w.gflags (x_seen a (x_seen a w.tox)) (y_seen a (y_seen a w.toy)) (x_seen a (x_seen a w.tx)) (y_seen a (y_seen a w.ty)) w.tflags) (x_again a w.gx) (y_again a w.gy)
    ∙ ap₂ (λ (x y : List ℤ). world w.state (x_seen a w.gx) (y_seen a w.gy) w.gflags x y (x_seen a (x_seen a w.tx)) (y_seen a (y_seen a w.ty)) w.tflags) (x_again a w.tox) (y_again a w.toy)
    ∙ ap₂ (λ (x y : List ℤ). world w.state (x_seen a w.gx) (y_seen a w.gy) w.gflags (x_seen a w.tox) (y_seen a w.toy) x y w.tflags) (x_again a w.tx) (y_again a w.ty)

pub world_again : (a : Axis) (w : World) → Alike a (world_seen a w) w
world_again a w = record { seen = level_again a w }

-- ---- operands and control values
module _ (a : Axis) {v w : World} (e : Alike a v w) where
  pub refused_seen : (why : Refusal) → Same a (refused_in v why) (refused_in w why)
  refused_seen why = ap (λ (u : World). refused_in u why) e.seen

  pub one_seen : (operands : List ℤ) (rest rest' : ℤ → Lined) → ((z : ℤ) → Same a (rest z) (rest' z)) → Same a (one operands v rest) (one operands w rest')
  unfolding one
  one_seen [] rest rest' h = refused_seen Missing
  one_seen (z ∷ more) rest rest' h = h z

  pub two_seen : (operands : List ℤ) (rest rest' : ℤ → ℤ → Lined) → ((y z : ℤ) → Same a (rest y z) (rest' y z)) → Same a (two operands v rest) (two operands w rest')
  unfolding two
  two_seen [] rest rest' h = refused_seen Missing
  two_seen (y ∷ []) rest rest' h = refused_seen Missing
  two_seen (y ∷ z ∷ more) rest rest' h = h y z

  pub control_seen : (f : Fixed) (entry : ℕ) (rest rest' : ℤ → Lined) → ((z : ℤ) → Same a (rest z) (rest' z)) → Same a (control_at (fixed_seen a f) entry v rest) (control_at f entry w rest')
  unfolding control_at
  control_seen f entry rest rest' h = seen_by_test (lined_seen a) (ltb entry (length f.controls)) (h (get_or f.controls entry (pos 0))) (refused_seen (ControlValue entry))

-- ---- points
abbrev fetched_in : ZonePointer → ℕ → World → Result Vector Refusal
fetched_in zone at w = fetch_in at w.gx w.gy w.tx w.ty zone

fetch_in_seen : (a : Axis) (zone : ZonePointer) (at : ℕ) (w : World) → fetched_in zone at (world_seen a w) ≡ fetched_seen a (fetched_in zone at w)
unfolding fetch_in
fetch_in_seen a Glyph at w = fetch_seen a w.gx w.gy at
fetch_in_seen a Twilight at w = fetch_seen a w.tx w.ty at

module _ (a : Axis) (out out' : Refusal → Lined) (rest rest' : Vector → Lined) (outside : (why : Refusal) → Same a (out why) (out' why)) (there : (p q : Vector) → place_seen a p ≡ place_seen a q → Same a (rest p) (rest' q)) where
  pub by_fetched_seen : (g h : Result Vector Refusal) → fetched_seen a g ≡ fetched_seen a h → Same a (by_fetched out rest g) (by_fetched out' rest' h)
  by_fetched_seen (Ok p) (Ok q) e = there p q (cc)
  by_fetched_seen (Err why) (Err why') e = outside why ∙ ap (λ (y : Refusal). lined_seen a (out' y)) (cc)
  by_fetched_seen (Ok p) (Err why) e = let z : ◌≡◌ {A = ℕ} 0 1 = cc in absurd (omega arith)
  by_fetched_seen (Err why) (Ok q) e = let z : ◌≡◌ {A = ℕ} 0 1 = cc in absurd (omega arith)

  pub point_seen : (zone : ZonePointer) (at : ℕ) {v w : World} → Alike a v w → Same a (point_or zone at v out rest) (point_or zone at w out' rest')
  unfolding point_or
  point_seen zone at {v = v} {w = w} e =
      by_fetched_seen (fetched_in zone at v) (fetched_in zone at w) (sym (fetch_in_seen a zone at v) ∙ ap (fetched_in zone at) e.seen ∙ fetch_in_seen a zone at w)

-- a distance from the origin is seen along the axis
origin_seen : (a : Axis) → place_seen a origin ≡ origin
origin_seen X = refl
origin_seen Y = refl

from_origin_level : (a : Axis) (v : Vectors) → v ≡ all_along (unit_of a) → (p : Vector) → from_origin v (place_seen a p) ≡ from_origin v p
unfolding from_origin
from_origin_level a v e p = ap (project_of v (place_seen a p)) (sym (origin_seen a)) ∙ project_seen a v e p origin

pub from_origin_seen : (a : Axis) (v : Vectors) → v ≡ all_along (unit_of a) → (p q : Vector) → place_seen a p ≡ place_seen a q → from_origin v p ≡ from_origin v q
from_origin_seen a v e p q h = sym (from_origin_level a v e p) ∙ ap (from_origin v) h ∙ from_origin_level a v e q

-- ---- a twilight point made
made_level : (a : Axis) (at : ℕ) (place : Vector) (zone : ZonePointer) (w : World) → world_seen a (made_in at place (world_seen a w) zone) ≡ world_seen a (made_in at place w zone)
unfolding made_in
made_level a at place Glyph w = level_again a w
made_level a at place Twilight w =
    ap₂ (λ (x y : List ℤ). world w.state x y w.gflags (x_seen a (set (x_seen a w.tox) at place.x)) (y_seen a (set (y_seen a w.toy) at place.y)) (x_seen a (set (x_seen a w.tx) at place.x)) (y_seen a (set (y_seen a w.ty) at place.y)) w.tflags) (x_again a w.gx) (y_again a w.gy)
    ∙ ap₂ (λ (x y : List ℤ). world w.state (x_seen a w.gx) (y_seen a w.gy) w.gflags x y (x_seen a (set (x_seen a w.tx) at place.x)) (y_seen a (set (y_seen a w.ty) at place.y)) w.tflags) (x_set a w.tox at place.x) (y_set a w.toy at place.y)
    ∙ ap₂ (λ (x y : List ℤ). world w.state (x_seen a w.gx) (y_seen a w.gy) w.gflags (x_seen a (set w.tox at place.x)) (y_seen a (set w.toy at place.y)) x y w.tflags) (x_set a w.tx at place.x) (y_set a w.ty at place.y)

pub made_seen : (a : Axis) (at : ℕ) (place : Vector) (zone : ZonePointer) {v w : World} → Alike a v w → Alike a (made_in at place v zone) (made_in at place w zone)
made_seen a at place zone {v = v} {w = w} e =
    record { seen = sym (made_level a at place zone v) ∙ ap (λ (u : World). world_seen a (made_in at place u zone)) e.seen ∙ made_level a at place zone w }

-- ---- moves
-- one zone moved, the other and the originals left
abbrev on_glyph : World → Moved → Lined
on_glyph w m = record { call = m.call; world = world w.state m.xs m.ys m.flags w.tox w.toy w.tx w.ty w.tflags }

abbrev on_twilight : World → Moved → Lined
on_twilight w m = record { call = m.call; world = world w.state w.gx w.gy w.gflags w.tox w.toy m.xs m.ys m.flags }

abbrev applied : ZonePointer → Move → ℕ → World → Lined
applied zone m at w =
    let b = apply_in m at w.gx w.gy w.gflags w.tx w.ty w.tflags zone in
    record { call = b.call; world = with_points w b }

applied_level : (a : Axis) (zone : ZonePointer) (m : Move) (at : ℕ) (w : World) → Same a (applied zone m at (world_seen a w)) (applied zone m at w)
unfolding apply_in
applied_level a Glyph m at w =
    ap (λ (u : World). on_glyph u (moved_seen a (apply_of m at (x_seen a w.gx) (y_seen a w.gy) w.gflags))) (level_again a w)
    ∙ ap (on_glyph (world_seen a w)) (apply_seen a m at w.gx w.gy w.gflags)
applied_level a Twilight m at w =
    ap (λ (u : World). on_twilight u (moved_seen a (apply_of m at (x_seen a w.tx) (y_seen a w.ty) w.tflags))) (level_again a w)
    ∙ ap (on_twilight (world_seen a w)) (apply_seen a m at w.tx w.ty w.tflags)

module _ (a : Axis) (rest rest' : World → Lined) (there : (v w : World) → Alike a v w → Same a (rest v) (rest' w)) where
  by_call_seen : (call : Result ⊤ Refusal) (v w : World) → Alike a v w → Same a (by_call v rest call) (by_call w rest' call)
  by_call_seen (Ok tt) v w e = there v w e
  by_call_seen (Err why) v w e = refused_seen a e why

  -- after what was said alike of worlds that look alike
  pub after_seen : (l k : Lined) → Same a l k → Same a (by_call l.world rest l.call) (by_call k.world rest' k.call)
  after_seen l k e =
      by_call_seen l.call l.world k.world (record { seen = ap (λ (x : Lined). x.world) e })
      ∙ ap (λ (call : Result ⊤ Refusal). lined_seen a (by_call k.world rest' call)) (ap (λ (x : Lined). x.call) e)

  pub laid_seen : (zone : ZonePointer) (m : Move) (at : ℕ) {v w : World} → Alike a v w → Same a (laid_in zone m at v rest) (laid_in zone m at w rest')
  unfolding laid_in
  laid_seen zone m at {v = v} {w = w} e =
      after_seen (applied zone m at v) (applied zone m at w)
      (sym (applied_level a zone m at v) ∙ ap (λ (u : World). lined_seen a (applied zone m at u)) e.seen ∙ applied_level a zone m at w)

  -- by a distance
  pub move_seen : (zone : ZonePointer) (d : ℤ) (at : ℕ) {v w : World} → Alike a v w → Same a (move_in zone d at v rest) (move_in zone d at w rest')
  unfolding move_in laid_in
  move_seen zone d at {v = v} {w = w} e =
      let moved : World → Lined = λ u. applied zone (move_of u.state.vectors u.state.facts d) at u in
      after_seen (moved v) (moved w)
      (sym (applied_level a zone (move_of v.state.vectors v.state.facts d) at v)
      ∙ ap (λ (u : World). lined_seen a (moved u)) e.seen
      ∙ applied_level a zone (move_of w.state.vectors w.state.facts d) at w)

-- by a rounded distance
module _ (a : Axis) (rest rest' : World → Lined) (h : (v w : World) → Alike a v w → Same a (rest v) (rest' w)) where
  pub rounded_seen : (zone : ZonePointer) (d : Tracked) (at : ℕ) {v w : World} → Alike a v w → Same a (rounded_move_in zone d at v rest) (rounded_move_in zone d at w rest')
  unfolding rounded_move_in
  rounded_seen zone d at =
      move_seen a (λ (v : World). rest (rounded_in d.wrapped v)) (λ (v : World). rest' (rounded_in d.wrapped v))
      (λ v w e. h (rounded_in d.wrapped v) (rounded_in d.wrapped w) (record { seen = ap (λ (u : World). rounded_in d.wrapped u) e.seen }))
      zone d.word at

pub done_seen : (a : Axis) (v w : World) → Alike a v w → Same a (done_in v) (done_in w)
done_seen a v w e = ap done_in e.seen

-- ---- the state
pub state_seen : (a : Axis) {v w : World} → Alike a v w → (change : GraphicsState → GraphicsState) → Alike a (in_state v (change v.state)) (in_state w (change w.state))
state_seen a e change = record { seen = ap (λ (u : World). in_state u (change u.state)) e.seen }

-- ---- flags
pub flags_seen : (a : Axis) {v w : World} → Alike a v w → (change : List ℕ → Marked) → Same a (flags_in v (change v.gflags)) (flags_in w (change w.gflags))
flags_seen a e change = ap (λ (u : World). flags_in u (change u.gflags)) e.seen

-- ---- what pedantry decides
passed_level : (a : Axis) (w : World) (why : Refusal) → Same a (passed_over (world_seen a w) why) (passed_over w why)
unfolding passed_over
passed_level a w why = seen_by_test (lined_seen a) w.state.facts.pedantic (refused_seen a (world_again a w) why) (done_seen a (world_seen a w) w (world_again a w))

pub passed_seen : (a : Axis) {v w : World} → Alike a v w → (why : Refusal) → Same a (passed_over v why) (passed_over w why)
passed_seen a {v = v} {w = w} e why =
    sym (passed_level a v why) ∙ ap (λ (u : World). lined_seen a (passed_over u why)) e.seen ∙ passed_level a w why

-- ---- the first operand, and those behind it
pub first_seen : (a : Axis) {v w : World} → Alike a v w → (operands : List ℤ) (rest rest' : ℤ → List ℤ → Lined) → ((z : ℤ) (more : List ℤ) → Same a (rest z more) (rest' z more))
    → Same a (first operands v rest) (first operands w rest')
unfolding first
first_seen a e [] rest rest' h = refused_seen a e Missing
first_seen a e (z ∷ more) rest rest' h = h z more

-- ---- loops
-- of two steps that come to the same along the axis
module _ (a : Axis) (step step' : ℤ → World → Lined) (alike : (z : ℤ) (v w : World) → Alike a v w → Straight a w.state → Same a (step z v) (step' z w))
    (still : (z : ℤ) (w : World) → (step' z w).world.state ≡ w.state) where
  -- the rest of two loops, after a step that said the same
  rest_seen : (rest rest' : World → Lined) → ((v w : World) → Alike a v w → Straight a w.state → Same a (rest v) (rest' w))
      → (call : Result ⊤ Refusal) (v w : World) → Alike a v w → Straight a w.state → Same a (by_call v rest call) (by_call w rest' call)
  rest_seen rest rest' h (Ok tt) v w e straight = h v w e straight
  rest_seen rest rest' h (Err why) v w e straight = refused_seen a e why

  next_seen : (rest rest' : World → Lined) → ((v w : World) → Alike a v w → Straight a w.state → Same a (rest v) (rest' w))
      → (l k : Lined) → Same a l k → Straight a k.world.state → Same a (by_call l.world rest l.call) (by_call k.world rest' k.call)
  next_seen rest rest' h l k same straight =
      rest_seen rest rest' h l.call l.world k.world (record { seen = ap (λ (x : Lined). x.world) same }) straight
      ∙ ap (λ (call : Result ⊤ Refusal). lined_seen a (by_call k.world rest' call)) (ap (λ (x : Lined). x.call) same)

  pub each_alike : (n : ℕ) (operands : List ℤ) (v w : World) → Alike a v w → Straight a w.state → Same a (each_in step n operands v) (each_in step' n operands w)
  unfolding each_in
  each_alike zero operands v w e straight = done_seen a v w e
  each_alike (suc n) [] v w e straight = refused_seen a e Missing
  each_alike (suc n) (z ∷ more) v w e straight =
      next_seen (each_in step n more) (each_in step' n more) (each_alike n more) (step z v) (step' z w) (alike z v w e straight) (ap (λ (s : GraphicsState). s.vectors) (still z w) ∙ straight)

-- a step that sees nothing across comes from worlds that look alike to what another comes to from the one, where it does so from the world seen
pub step_alike : (a : Axis) (step step' : ℤ → World → Lined) → ((z : ℤ) (w : World) → Straight a w.state → Same a (step z (world_seen a w)) (step z w))
    → ((z : ℤ) (w : World) → Straight a w.state → Same a (step z (world_seen a w)) (step' z w)) → (z : ℤ) (v w : World) → Alike a v w → Straight a w.state → Same a (step z v) (step' z w)
step_alike a step step' level crossed z v w e straight =
    let same : v.state ≡ w.state = ap (λ (u : World). u.state) e.seen in
    sym (level z v (ap (λ (s : GraphicsState). s.vectors) same ∙ straight)) ∙ ap (λ (u : World). lined_seen a (step z u)) e.seen ∙ crossed z w straight

-- of one step
module _ (a : Axis) (step : ℤ → World → Lined) (level : (z : ℤ) (w : World) → Straight a w.state → Same a (step z (world_seen a w)) (step z w))
    (still : (z : ℤ) (w : World) → (step z w).world.state ≡ w.state) where
  pub each_seen : (n : ℕ) (operands : List ℤ) (v w : World) → Alike a v w → Straight a w.state → Same a (each_in step n operands v) (each_in step n operands w)
  each_seen = each_alike a step step (step_alike a step step level level) still

  -- the counter is 1 afterwards
  reset : Lined → Lined
  reset l = record { call = l.call; world = in_state l.world (with_loop_counter l.world.state 1) }

  pub looped_seen : (operands : List ℤ) (w : World) → Straight a w.state → Same a (looped operands (world_seen a w) step) (looped operands w step)
  unfolding reset
  looped_seen operands w straight = ap reset (each_seen w.state.loop_counter operands (world_seen a w) w (world_again a w) straight)

-- ---- original points
place_again : (a : Axis) (p : Vector) → place_seen a (place_seen a p) ≡ place_seen a p
place_again X p = refl
place_again Y p = refl

-- of lists that are only read
pub place_alike : (a : Axis) (xs ys : List ℤ) (at : ℕ) → place_seen a (place_of (x_seen a xs) (y_seen a ys) at) ≡ place_seen a (place_of xs ys at)
place_alike a xs ys at = ap (place_seen a) (place_seen_lem a xs ys at) ∙ place_again a (place_of xs ys at)

abbrev pub original_at : Fixed → World → ZonePointer → ℕ → Vector
original_at f w zone at = place_in at f.gox f.goy w.tox w.toy zone

module _ (a : Axis) (f : Fixed) {v w : World} (e : Alike a v w) where
  pub original_alike : (zone : ZonePointer) (at : ℕ) → place_seen a (original_at (fixed_seen a f) v zone at) ≡ place_seen a (original_at f w zone at)
  unfolding place_in
  original_alike Glyph at = place_alike a f.gox f.goy at
  original_alike Twilight at = sym (place_seen_lem a v.tox v.toy at) ∙ ap (λ (u : World). place_of u.tox u.toy at) e.seen ∙ place_seen_lem a w.tox w.toy at
