-- Whatever vector these lines set, the state test lets it in: a unit vector's components are within 1, and so is a vector that was let in before. Assumes nothing.
use Rattle.std.specs.Prelude.{Result, Ok, Err}
use Rattle.answer.specs.declared.Refusal.{Refusal}
use Prim.Native.Nat.{ℕ}
use mathlib.Core.Bool.{Bool, true, false, ◌&&◌}
use mathlib.Core.List.{List, [], ◌∷◌}
use mathlib.Core.Path.{◌≡◌, refl}
use lib.Dec.{eqb, ltb}
use lib.IntN.{ℤ, pos}
use mir.Syntax.{w32}
use mir.Val.{SFits}
use Rattle.graphics.proofs.Laws.{and_left, freedom_ok, measured_ok, round_ok, usable_freedom_vector, usable_projection_vectors, x_in_range}
use Rattle.graphics.specs.State.{usable_state, vector_in_range, vectors_in_range}
use Rattle.graphics.specs.declared.GraphicsState.{GraphicsState}
use Rattle.graphics.specs.declared.Vector.{Vector}
use Rattle.int.proofs.Words.{shr_fits}
use Rattle.int.proofs.Wraps.{neg32_fits, sub32_fits, wrap_fits}
use Rattle.int.specs.Word.{eq_z, index_of, mul32, neg32, sub32}
use Rattle.line.specs.Operands.{is_odd}
use Rattle.line.specs.World.{Fixed, World}
use Rattle.line_measure.specs.Measure.{original_or}
use Rattle.line.specs.Places.{fetch_in}
use Rattle.line_steps.specs.Steps.{by_fetched, done_in, in_state, point_or, refused_in, two}
use Rattle.normalize.proofs.Laws.{unit_in_range}
use Rattle.line_vectors.specs.Vectors.{along_at, dual_at, followed, from_stack, line_vector, short, stack_at, to_dual_line_of, to_line_of, vector_by}

-- ---- the vectors
short_fits : (z : ℤ) → SFits w32 (short z)
unfolding short mul32
short_fits z = shr_fits _ 65536 (wrap_fits _)

line_cases : (together : Bool) (across : Bool) (p q : Vector) → (eq_z (sub32 p.x q.x) (pos 0) && eq_z (sub32 p.y q.y) (pos 0)) ≡ together → vector_in_range (line_vector across p q) ≡ true
unfolding line_vector
line_cases true across p q e = rw e x_in_range
line_cases false true p q e = rw e (unit_in_range (neg32 (sub32 p.y q.y)) (sub32 p.x q.x) (neg32_fits _) (sub32_fits p.x q.x))
line_cases false false p q e = rw e (unit_in_range (sub32 p.x q.x) (sub32 p.y q.y) (sub32_fits p.x q.x) (sub32_fits p.y q.y))

pub line_in_range : (across : Bool) (p q : Vector) → vector_in_range (line_vector across p q) ≡ true
line_in_range across p q = line_cases _ across p q refl

stack_cases : (both : Bool) (kept : Vector) (x y : ℤ) → (eq_z x (pos 0) && eq_z y (pos 0)) ≡ both → SFits w32 x → SFits w32 y → vector_in_range kept ≡ true → vector_in_range (from_stack kept x y) ≡ true
unfolding from_stack
stack_cases true kept x y e f g h = rw e h
stack_cases false kept x y e f g h = rw e (unit_in_range x y f g)

stack_in_range : (kept : Vector) (x y : ℤ) → SFits w32 x → SFits w32 y → vector_in_range kept ≡ true → vector_in_range (from_stack kept x y) ≡ true
stack_in_range kept x y f g h = stack_cases _ kept x y refl f g h

-- ---- the states
module _ (s : GraphicsState) (ok : usable_state s ≡ true) where
  projection_ok : vector_in_range s.vectors.projection ≡ true
  projection_ok = and_left _ (vector_in_range s.vectors.dual) (measured_ok s ok)

  along_cases : (measured : Bool) (op : ℕ) (v : Vector) → ltb op 0x08 ≡ measured → vector_in_range v ≡ true → usable_state (along_at s op v) ≡ true
  unfolding along_at
  along_cases true op v e h = rw e (usable_projection_vectors s ok v h)
  along_cases false op v e h = rw e (usable_freedom_vector s ok v h)

  along_usable : (op : ℕ) (v : Vector) → vector_in_range v ≡ true → usable_state (along_at s op v) ≡ true
  along_usable op v h = along_cases _ op v refl h

  dual_usable : (dual v : Vector) → vector_in_range dual ≡ true → vector_in_range v ≡ true → usable_state (dual_at s dual v) ≡ true
  unfolding dual_at usable_state vectors_in_range
  dual_usable dual v d h = rw (h, d, freedom_ok s ok, round_ok s ok) refl

  stack_state_cases : (measured : Bool) (op : ℕ) (x y : ℤ) → eqb op 0x0A ≡ measured → SFits w32 x → SFits w32 y → usable_state (stack_at s op x y) ≡ true
  unfolding stack_at
  stack_state_cases true op x y e f g = rw e (usable_projection_vectors s ok _ (stack_in_range _ x y f g projection_ok))
  stack_state_cases false op x y e f g = rw e (usable_freedom_vector s ok _ (stack_in_range _ x y f g (freedom_ok s ok)))

  vector_cases : (follows : Bool) (op : ℕ) (operands : List ℤ) → eqb op 0x0E ≡ follows → usable_state (vector_by s op operands).state ≡ true
  unfolding vector_by followed
  vector_cases true op operands e = rw e (usable_freedom_vector s ok s.vectors.projection projection_ok)
  vector_cases false op [] e = rw e ok
  vector_cases false op (y ∷ []) e = rw e ok
  vector_cases false op (y ∷ x ∷ more) e = rw e (stack_state_cases _ op (short x) (short y) refl (short_fits x) (short_fits y))

  -- SPVFS, SFVFS, SFVTPV
  pub vector_usable : (op : ℕ) (operands : List ℤ) → usable_state (vector_by s op operands).state ≡ true
  vector_usable op operands = vector_cases _ op operands refl

-- ---- the lines of two points
module _ (f : Fixed) (op : ℕ) (w : World) (ok : usable_state w.state ≡ true) where
  found_usable : (g h : Result Vector Refusal) → usable_state (by_fetched (refused_in w) (λ (p : Vector). by_fetched (refused_in w) (λ (q : Vector). done_in (in_state w (along_at w.state op (line_vector (is_odd op) p q)))) h) g).world.state ≡ true
  found_usable (Err why) h = ok
  found_usable (Ok p) (Err why) = ok
  found_usable (Ok p) (Ok q) = along_usable w.state ok op (line_vector (is_odd op) p q) (line_in_range (is_odd op) p q)

  dual_found_usable : (i j g h : Result Vector Refusal) → usable_state (by_fetched (refused_in w) (λ (k : Vector). by_fetched (refused_in w) (λ (l : Vector). by_fetched (refused_in w) (λ (p : Vector). by_fetched (refused_in w) (λ (q : Vector). done_in (in_state w (dual_at w.state (line_vector (is_odd op) k l) (line_vector (is_odd op) p q)))) h) g) j) i).world.state ≡ true
  dual_found_usable (Err why) j g h = ok
  dual_found_usable (Ok k) (Err why) g h = ok
  dual_found_usable (Ok k) (Ok l) (Err why) h = ok
  dual_found_usable (Ok k) (Ok l) (Ok p) (Err why) = ok
  dual_found_usable (Ok k) (Ok l) (Ok p) (Ok q) = dual_usable w.state ok (line_vector (is_odd op) k l) (line_vector (is_odd op) p q) (line_in_range (is_odd op) k l) (line_in_range (is_odd op) p q)

  -- SPVTL, SFVTL
  pub to_line_usable : (operands : List ℤ) → usable_state (to_line_of f op operands w).world.state ≡ true
  unfolding to_line_of two point_or
  to_line_usable [] = ok
  to_line_usable (a ∷ []) = ok
  to_line_usable (a ∷ b ∷ more) = found_usable (fetch_in (index_of b) w.gx w.gy w.tx w.ty w.state.pointers.zp1) (fetch_in (index_of a) w.gx w.gy w.tx w.ty w.state.pointers.zp2)

  -- SDPVTL
  pub to_dual_line_usable : (operands : List ℤ) → usable_state (to_dual_line_of f op operands w).world.state ≡ true
  unfolding to_dual_line_of two point_or original_or
  to_dual_line_usable [] = ok
  to_dual_line_usable (a ∷ []) = ok
  to_dual_line_usable (a ∷ b ∷ more) =
      dual_found_usable (fetch_in (index_of b) f.gox f.goy w.tox w.toy w.state.pointers.zp1) (fetch_in (index_of a) f.gox f.goy w.tox w.toy w.state.pointers.zp2)
      (fetch_in (index_of b) w.gx w.gy w.tx w.ty w.state.pointers.zp1)
      (fetch_in (index_of a) w.gx w.gy w.tx w.ty w.state.pointers.zp2)
