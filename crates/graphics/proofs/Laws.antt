-- Which states pass the state test. It reads the vectors and the round state alone, so every other setter keeps its answer, and a vector in
-- range or a mode that can be rounded by keeps a yes: a second run, which starts from the state that the first one left, passes it again.
-- Each law goes by the parts of the test. Assumes nothing.
use mathlib.Core.Path.{◌≡◌, refl}
use mathlib.Core.Bool.{Bool, true, false, ◌&&◌}
use Prim.Native.Nat.{ℕ}
use lib.IntN.{ℤ}
use Rattle.round.specs.Round.{usable, usable_by}
use Rattle.round.specs.declared.RoundMode.{RoundMode}
use Rattle.round.specs.declared.RoundState.{RoundState}
use Rattle.graphics.specs.State.{x_axis, y_axis, in_range, vector_in_range, vectors_in_range, usable_state, fresh_state, with_references, with_loop_counter, with_pointers, with_facts, with_vectors, with_round, all_along, measured_along, moved_along, in_mode, with_push, with_rounding}
use Rattle.graphics.specs.declared.Vector.{Vector}
use Rattle.graphics.specs.declared.References.{References}
use Rattle.graphics.specs.declared.ZonePointers.{ZonePointers}
use Rattle.graphics.specs.declared.Facts.{Facts}
use Rattle.graphics.specs.declared.GraphicsState.{GraphicsState}

-- ---- each of two tests
pub and_left : (a b : Bool) → a && b ≡ true → a ≡ true
and_left true b e = refl
and_left false b e = cc e

pub and_right : (a b : Bool) → a && b ≡ true → b ≡ true
and_right true b e = e
and_right false b e = cc e

-- ---- the components of a vector in range
pub x_of : (v : Vector) → vector_in_range v ≡ true → in_range v.x ≡ true
unfolding vector_in_range
x_of v h = and_left (in_range v.x) (in_range v.y) h

pub y_of : (v : Vector) → vector_in_range v ≡ true → in_range v.y ≡ true
unfolding vector_in_range
y_of v h = and_right (in_range v.x) (in_range v.y) h

-- ---- the axes and the fresh state
pub x_in_range : vector_in_range x_axis ≡ true
unfolding vector_in_range
x_in_range = refl

pub y_in_range : vector_in_range y_axis ≡ true
unfolding vector_in_range
y_in_range = refl

pub fresh_usable : usable_state fresh_state ≡ true
unfolding usable_state vectors_in_range vector_in_range
fresh_usable = refl

-- ---- what the test does not read
pub usable_references : (s : GraphicsState) (p : References) → usable_state (with_references s p) ≡ usable_state s
unfolding usable_state
usable_references s p = refl

pub usable_loop : (s : GraphicsState) (count : ℕ) → usable_state (with_loop_counter s count) ≡ usable_state s
unfolding usable_state
usable_loop s count = refl

pub usable_rounding : (wrapped : Bool) (s : GraphicsState) → usable_state (with_rounding wrapped s) ≡ usable_state s
unfolding usable_state with_rounding
usable_rounding wrapped s = refl

pub usable_push : (value : ℤ) (s : GraphicsState) → usable_state (with_push value s) ≡ usable_state s
unfolding usable_state with_push
usable_push value s = refl

pub usable_pointers : (s : GraphicsState) (p : ZonePointers) → usable_state (with_pointers s p) ≡ usable_state s
unfolding usable_state
usable_pointers s p = refl

pub usable_facts : (s : GraphicsState) (f : Facts) → usable_state (with_facts s f) ≡ usable_state s
unfolding usable_state
usable_facts s f = refl

-- ---- what it reads
module _ (s : GraphicsState) (ok : usable_state s ≡ true) where
  pub vectors_ok : vectors_in_range s.vectors ≡ true
  unfolding usable_state
  vectors_ok = and_left _ (usable s.round) ok

  pub round_ok : usable s.round ≡ true
  unfolding usable_state
  round_ok = and_right (vectors_in_range s.vectors) _ ok

  pub measured_ok : vector_in_range s.vectors.projection && vector_in_range s.vectors.dual ≡ true
  unfolding vectors_in_range
  measured_ok = and_left _ (vector_in_range s.vectors.freedom) vectors_ok

  pub freedom_ok : vector_in_range s.vectors.freedom ≡ true
  unfolding vectors_in_range
  freedom_ok = and_right (vector_in_range s.vectors.projection && vector_in_range s.vectors.dual) _ vectors_ok

  pub usable_all_vectors : (v : Vector) → vector_in_range v ≡ true → usable_state (with_vectors s (all_along v)) ≡ true
  unfolding usable_state vectors_in_range
  usable_all_vectors v h = rw (h, round_ok)

  pub usable_projection_vectors : (v : Vector) → vector_in_range v ≡ true → usable_state (with_vectors s (measured_along s.vectors v)) ≡ true
  unfolding usable_state vectors_in_range
  usable_projection_vectors v h = rw (h, freedom_ok, round_ok)

  pub usable_freedom_vector : (v : Vector) → vector_in_range v ≡ true → usable_state (with_vectors s (moved_along s.vectors v)) ≡ true
  unfolding usable_state vectors_in_range
  usable_freedom_vector v h = rw (measured_ok, h, round_ok)

  pub usable_round : (r : RoundState) → usable r ≡ true → usable_state (with_round s r) ≡ true
  unfolding usable_state
  usable_round r h = rw (vectors_ok, h)

  -- every mode but Super45, and that one with a period
  pub usable_round_mode : (m : RoundMode) → usable_by s.round.period m ≡ true → usable_state (with_round s (in_mode s.round m)) ≡ true
  usable_round_mode m h = usable_round (in_mode s.round m) h
