-- A line that sets the state keeps its values in their width: vectors are set to such as are in range, a reference to an operand widened to 64 bits, the loop
-- counter to at most 65,535, a measure to an operand or a scaled one, and a selector's round state is small. Assumes nothing.
use mathlib.Core.Bool.{Bool, ◌&&◌, true, false}
use mathlib.Core.List.{List, [], ◌∷◌}
use mathlib.Core.Path.{◌≡◌, refl}
use Prim.Native.Nat.{◌%◌, ◌*◌, ◌+◌, ◌/◌, ◌<◌, ◌^◌, ◌≤◌, min, ℕ}
use native.Mathlib.Nat.{le_trans, mul-le-mul}
use native.Mathlib.Omega.{arith}
use borrow.Author.Tests.{leb-true}
use lib.Dec.{eqb, leb, ltb}
use lib.IntN.{◌*ℤ◌, ◌-ℤ◌, nat_abs, negsuc, neg_ℤ, pos, ℤ}
use lib.Signed.{mag, nat_abs-le, non_neg, quot_z}
use mir.Facts.{Fits-of_z, sfits_lit}
use mir.Syntax.{w32}
use mir.Val.{SFits}
use Rattle.graphics.proofs.Laws.{and_left, x_of, y_of}
use Rattle.graphics.specs.State.{all_along, in_mode, in_range, measured_along, moved_along, rp0_at, rp1_at, rp2_at, with_facts, with_loop_counter, with_pointers, with_push, with_references, with_round, with_rounding, with_vectors, vector_in_range}
use Rattle.graphics.specs.declared.Facts.{Facts}
use Rattle.graphics.specs.declared.GraphicsState.{GraphicsState}
use Rattle.graphics.specs.declared.Measures.{Measures}
use Rattle.graphics.specs.declared.References.{References}
use Rattle.graphics.specs.declared.Tallies.{Tallies}
use Rattle.graphics.specs.declared.Vector.{Vector}
use Rattle.graphics.specs.declared.Vectors.{Vectors}
use Rattle.graphics.specs.declared.ZonePointer.TheVariants.{Glyph, Twilight}
use Rattle.graphics.specs.declared.ZonePointer.{ZonePointer}
use Rattle.graphics.specs.declared.ZonePointers.{ZonePointers}
use Rattle.int.proofs.Ints.{mag_add, mag_mul, mag_neg, mag_quot}
use Rattle.int.proofs.Tests.{either}
use Rattle.int.proofs.Words.{shr_fits, wide_fits}
use Rattle.int.proofs.Wraps.{wrap_fits}
use Rattle.int.specs.Word.{bits_of, eq_z, index_of, mul32}
use Rattle.laws_lines.proofs.Measures.{mul_fits}
use Rattle.line.specs.Line.{done_with}
use Rattle.line.specs.declared.Stepped.{Stepped}
use Rattle.line.specs.Operands.{index_at}
use Rattle.record_read.proofs.Widths.{StateInWidth}
use Rattle.round.specs.declared.RoundState.{RoundState}
use Rattle.super_round.proofs.Facts.{period_most}
use Rattle.super_round.specs.Selector.{grid_period, period_by, phase_by, state_by, super_of, threshold_by}
use Rattle.line_set.specs.Setters.{axis_by, loop_by, mode_by, on_operand, operand_by, pointer_by, reference_by, set_by, takes_operand, vectors_by, zone_by}
use Rattle.line_sizes.specs.Sizes.{cut_in_at, flip_by, flipping_at, measure_by, minimum_at, single_cut_in_at, single_width_at, size_by, sized_by, with_measures}
use Rattle.line_vectors.specs.Vectors.{along_at, dual_at, followed, from_stack, on_two, short, stack_at, vector_by}
use Rattle.math.specs.Fixed.{mul_fix}
use Rattle.normalize.proofs.Laws.{unit_in_range}
use Rattle.normalize.specs.Unit.{unit_of}
use Rattle.state_words.proofs.Back.{MeasuresFit, RoundFits, VectorFits, VectorsFit}
use Rattle.words.proofs.Widths.{Numbers, every_at, no_word, one_word}
use Rattle.laws_widths.proofs.Steps.{zero_fits}
use Rattle.laws_widths.proofs.Index.{index_fits}

-- ---- an operand as an index
pub index_at_fits : {operands : List ℤ} → Numbers operands → (k : ℕ) → index_at operands k < 2 ^ 64
index_at_fits f k = index_fits (every_at f zero_fits k)

-- ---- one group set
pub record ReferencesFit (p : References) : Type 0 where
  pub rp0 : p.rp0 < 2 ^ 64
  pub rp1 : p.rp1 < 2 ^ 64
  pub rp2 : p.rp2 < 2 ^ 64

record TalliesFit (t : Tallies) : Type 0 where
  pub wrapped : t.wrapped_roundings < 2 ^ 32
  pub last_pushed : SFits w32 t.last_pushed
  pub pushes : t.pushes < 2 ^ 32

-- a state by its groups
by_groups :
    (t : GraphicsState) → VectorsFit t.vectors → RoundFits t.round → ReferencesFit t.references → t.loop_counter < 2 ^ 32 → MeasuresFit t.measures → TalliesFit t.tallies
    → StateInWidth t
by_groups t v r p n m x = record {
  signed = record { vectors = v; round = r; measures = m; last_pushed = x.last_pushed };
  loop = n;
  rp0 = p.rp0;
  rp1 = p.rp1;
  rp2 = p.rp2;
  wrapped = x.wrapped;
  pushes = x.pushes;
}

module _ {s : GraphicsState} (f : StateInWidth s) where
  pub references_fit : ReferencesFit s.references
  references_fit = record { rp0 = f.rp0; rp1 = f.rp1; rp2 = f.rp2 }

  tallies_fit : TalliesFit s.tallies
  tallies_fit = record { wrapped = f.wrapped; last_pushed = f.signed.last_pushed; pushes = f.pushes }

  pub with_vectors_fits : (v : Vectors) → VectorsFit v → StateInWidth (with_vectors s v)
  with_vectors_fits v g = by_groups (with_vectors s v) g f.signed.round references_fit f.loop f.signed.measures tallies_fit

  pub with_round_fits : (r : RoundState) → RoundFits r → StateInWidth (with_round s r)
  with_round_fits r g = by_groups (with_round s r) f.signed.vectors g references_fit f.loop f.signed.measures tallies_fit

  pub with_references_fits : (p : References) → ReferencesFit p → StateInWidth (with_references s p)
  with_references_fits p g = by_groups (with_references s p) f.signed.vectors f.signed.round g f.loop f.signed.measures tallies_fit

  pub with_loop_fits : (count : ℕ) → count < 2 ^ 32 → StateInWidth (with_loop_counter s count)
  with_loop_fits count h = by_groups (with_loop_counter s count) f.signed.vectors f.signed.round references_fit h f.signed.measures tallies_fit

  pub with_measures_fits : (m : Measures) → MeasuresFit m → StateInWidth (with_measures s m)
  with_measures_fits m g = by_groups (with_measures s m) f.signed.vectors f.signed.round references_fit f.loop g tallies_fit

  pub with_pointers_fits : (p : ZonePointers) → StateInWidth (with_pointers s p)
  with_pointers_fits p = by_groups (with_pointers s p) f.signed.vectors f.signed.round references_fit f.loop f.signed.measures tallies_fit

  pub with_facts_fits : (b : Facts) → StateInWidth (with_facts s b)
  with_facts_fits b = by_groups (with_facts s b) f.signed.vectors f.signed.round references_fit f.loop f.signed.measures tallies_fit

  -- a count goes as far as 32 bits do
  pub with_rounding_fits : (wrapped : Bool) → StateInWidth (with_rounding wrapped s)
  unfolding with_rounding
  with_rounding_fits false = by_groups (with_rounding false s) f.signed.vectors f.signed.round references_fit f.loop f.signed.measures tallies_fit
  with_rounding_fits true =
      by_groups (with_rounding true s) f.signed.vectors f.signed.round references_fit f.loop f.signed.measures
      (record { wrapped = omega arith; last_pushed = f.signed.last_pushed; pushes = f.pushes })

  pub with_push_fits : {value : ℤ} → SFits w32 value → StateInWidth (with_push value s)
  unfolding with_push
  with_push_fits {value} g =
      by_groups (with_push value s) f.signed.vectors f.signed.round references_fit f.loop f.signed.measures
      (record { wrapped = f.wrapped; last_pushed = g; pushes = omega arith })

  -- a loop that has ended
  pub reset_fits : StateInWidth (with_loop_counter s 1)
  reset_fits = with_loop_fits 1 (omega arith)

-- ---- references
module _ {p : References} (f : ReferencesFit p) (at : ℕ) (h : at < 2 ^ 64) where
  pub rp0_fits : ReferencesFit (rp0_at p at)
  rp0_fits = record { rp0 = h; rp1 = f.rp1; rp2 = f.rp2 }

  pub rp1_fits : ReferencesFit (rp1_at p at)
  rp1_fits = record { rp0 = f.rp0; rp1 = h; rp2 = f.rp2 }

  pub rp2_fits : ReferencesFit (rp2_at p at)
  rp2_fits = record { rp0 = f.rp0; rp1 = f.rp1; rp2 = h }

-- ---- a selector's round state: no part of it is above 2 ^ 20 in 2.14
small_fits : {z : ℤ} → mag z ≤ 2 ^ 20 → SFits w32 z
small_fits h = record { sfits = omega (arith, h) }

difference_small : (a b : ℕ) → a ≤ 2 ^ 16 → b ≤ 4 → mag (pos a -ℤ pos b) ≤ a + 6
difference_small a b h k = omega (arith, mag_add (pos a) (neg_ℤ (pos b)), mag_neg (pos b))

eighths_small : (period field : ℕ) → period ≤ 0x8000 → field < 16 → mag (quot_z ((pos field -ℤ pos 4) *ℤ pos period) (pos 8)) ≤ 2 ^ 20
eighths_small period field h k =
    let z = pos field -ℤ pos 4 in
    let a : nat_abs z ≤ 22 = nat_abs-le z (omega (arith, difference_small field 4 (omega arith) (omega arith), k)) in
    let b : mag (z *ℤ pos period) ≤ 22 * 0x8000 = le_trans (mag_mul z (pos period)) (mul-le-mul a h) in
    let c : nat_abs (z *ℤ pos period) ≤ 22 * 0x8000 + 1 = nat_abs-le (z *ℤ pos period) (omega (arith, b)) in
    omega (arith, mag_quot (z *ℤ pos period) (pos 8), c)

threshold_small : (period field : ℕ) → period ≤ 0x8000 → field < 16 → mag (threshold_by period field) ≤ 2 ^ 20
unfolding threshold_by
threshold_small period field h k =
    either (λ (z : ℤ). mag z ≤ 2 ^ 20) (eqb field 0) (omega (arith, difference_small period 1 (omega (arith, h)) (omega arith), h)) (eighths_small period field h k)

phase_small : (period field : ℕ) → period ≤ 0x8000 → field < 4 → phase_by period field ≤ 2 ^ 20
unfolding phase_by
phase_small period field h k = let m : period * field ≤ 0x8000 * 4 = mul-le-mul {m₂ = 4} h (omega (arith, k)) in omega (arith, m)

pub super_fits : (diagonal : Bool) (word : ℤ) → RoundFits (super_of diagonal word)
unfolding state_by
super_fits diagonal word =
    let n = bits_of word % 256 in
    let period = period_by (grid_period diagonal) (n / 64) in
    let most : period ≤ 0x8000 = period_most diagonal (n / 64) in (
      shr_fits (threshold_by period (n % 16)) (2 ^ 8) (small_fits (threshold_small period (n % 16) most (omega arith))),
      shr_fits (pos (phase_by period (n / 16 % 4))) (2 ^ 8) (small_fits (phase_small period (n / 16 % 4) most (omega arith))),
      shr_fits (pos period) (2 ^ 8) (small_fits (omega (arith, most))),
    )

-- ---- the lines
axis_fits : (op : ℕ) → VectorFits (axis_by op)
unfolding axis_by
axis_fits op = either VectorFits (eqb (op % 2) 1) (sfits_lit tt, sfits_lit tt) (sfits_lit tt, sfits_lit tt)

-- an outcome whose state is in width
abbrev pub Within : Stepped → Type 0
Within r = StateInWidth r.state

module _ {s : GraphicsState} (f : StateInWidth s) where
  vectors_within : (op : ℕ) → StateInWidth (vectors_by s op)
  unfolding vectors_by
  vectors_within op =
      let a = axis_fits op in
      let v = f.signed.vectors in
      let axis = axis_by op in
      either StateInWidth (ltb op 0x02) (with_vectors_fits f (all_along axis) (a, a, a))
      (either StateInWidth (ltb op 0x04) (with_vectors_fits f (measured_along s.vectors axis) (a, a, v.2)) (with_vectors_fits f (moved_along s.vectors axis) (v.0, v.1, a)))

  reference_within : (op at : ℕ) → at < 2 ^ 64 → StateInWidth (reference_by s op at)
  unfolding reference_by
  reference_within op at h =
      let p = references_fit f in
      with_references_fits f _ (either ReferencesFit (eqb op 0x10) (rp0_fits p at h) (either ReferencesFit (eqb op 0x11) (rp1_fits p at h) (rp2_fits p at h)))

  pointer_within : (op : ℕ) (zone : ZonePointer) → StateInWidth (pointer_by s op zone)
  unfolding pointer_by
  pointer_within op zone = with_pointers_fits f _

  zone_within : (op : ℕ) (word : ℤ) → Within (zone_by s op word)
  unfolding zone_by
  zone_within op word = either Within (eq_z word (pos 0)) (pointer_within op Twilight) (either Within (eq_z word (pos 1)) (pointer_within op Glyph) f)

  loop_within : (word : ℤ) → Within (loop_by s word)
  unfolding loop_by
  loop_within word = either Within (non_neg word) (with_loop_fits f (min (nat_abs word) 65535) (omega arith)) f

  operand_within : (op : ℕ) (word : ℤ) → SFits w32 word → Within (operand_by s op word)
  unfolding operand_by
  operand_within op word h =
      either Within (ltb op 0x13) (reference_within op (index_of word) (index_fits h))
      (either Within (ltb op 0x17) (zone_within op word)
      (either Within (ltb op 0x18) (loop_within word) (with_round_fits f (super_of (eqb op 0x77) word) (super_fits (eqb op 0x77) word))))

  on_operand_within : (g : ℤ → Stepped) → ((word : ℤ) → SFits w32 word → Within (g word)) → {operands : List ℤ} → Numbers operands → Within (on_operand s g operands)
  on_operand_within g ok no_word = f
  on_operand_within g ok (one_word {w} h k) = ok w h

  pub set_within : (op : ℕ) {operands : List ℤ} → Numbers operands → StateInWidth (set_by s op operands).state
  unfolding set_by
  set_within op k =
      either Within (ltb op 0x06) (vectors_within op)
      (either Within (takes_operand op) (on_operand_within (operand_by s op) (operand_within op) k) (with_round_fits f (in_mode s.round (mode_by op)) f.signed.round))

-- ---- the lines that set a measure
module _ {m : Measures} (f : MeasuresFit m) where
  minimum_fits : (word : ℤ) → SFits w32 word → MeasuresFit (minimum_at m word)
  minimum_fits word h = record { cut_in = f.cut_in; minimum_distance = h; single_width = f.single_width; single_width_cut_in = f.single_width_cut_in; scale = f.scale }

  cut_in_fits : (word : ℤ) → SFits w32 word → MeasuresFit (cut_in_at m word)
  cut_in_fits word h = record { cut_in = h; minimum_distance = f.minimum_distance; single_width = f.single_width; single_width_cut_in = f.single_width_cut_in; scale = f.scale }

  single_cut_in_fits : (word : ℤ) → SFits w32 word → MeasuresFit (single_cut_in_at m word)
  single_cut_in_fits word h = record { cut_in = f.cut_in; minimum_distance = f.minimum_distance; single_width = f.single_width; single_width_cut_in = h; scale = f.scale }

  single_width_fits : (word : ℤ) → SFits w32 word → MeasuresFit (single_width_at m word)
  single_width_fits word h = record { cut_in = f.cut_in; minimum_distance = f.minimum_distance; single_width = h; single_width_cut_in = f.single_width_cut_in; scale = f.scale }

  flipping_fits : (on : Bool) → MeasuresFit (flipping_at m on)
  flipping_fits on = record { cut_in = f.cut_in; minimum_distance = f.minimum_distance; single_width = f.single_width; single_width_cut_in = f.single_width_cut_in; scale = f.scale }

  sized_fits : (op : ℕ) (word : ℤ) → SFits w32 word → MeasuresFit (sized_by m op word)
  unfolding sized_by
  sized_fits op word h =
      either MeasuresFit (eqb op 0x1A) (minimum_fits word h)
      (either MeasuresFit (eqb op 0x1D) (cut_in_fits word h)
      (either MeasuresFit (eqb op 0x1E) (single_cut_in_fits word h) (single_width_fits (mul_fix word m.scale) (mul_fits word m.scale))))

module _ {s : GraphicsState} (f : StateInWidth s) where
  size_within : (op : ℕ) (word : ℤ) → SFits w32 word → StateInWidth (size_by s op word)
  unfolding size_by
  size_within op word h = with_measures_fits f (sized_by s.measures op word) (sized_fits f.signed.measures op word h)

  flip_within : (on : Bool) → StateInWidth (flip_by s on)
  unfolding flip_by
  flip_within on = with_measures_fits f (flipping_at s.measures on) (flipping_fits f.signed.measures on)

  pub measure_within : (op : ℕ) {operands : List ℤ} → Numbers operands → StateInWidth (measure_by s op operands).state
  unfolding measure_by
  measure_within op k = either Within (leb 0x4D op) (flip_within (eqb op 0x4D)) (on_operand_within f (λ (word : ℤ). done_with (size_by s op word)) (size_within op) k)

-- ---- the lines that turn a vector
in_range_fits : (z : ℤ) → in_range z ≡ true → SFits w32 z
in_range_fits (pos n) e = record { sfits = omega (arith, leb-true n 16384 e) }
in_range_fits (negsuc n) e = record { sfits = omega (arith, leb-true n 16383 (and_left (leb n 16383) true e)) }

-- a vector in range
vector_fits : (v : Vector) → vector_in_range v ≡ true → VectorFits v
vector_fits v r = (in_range_fits v.x (x_of v r), in_range_fits v.y (y_of v r))

short_fits : (z : ℤ) → SFits w32 (short z)
unfolding short mul32
short_fits z = shr_fits _ 65536 (wrap_fits _)

-- from the stack, or what was set
stack_fits : (kept : Vector) → VectorFits kept → (x y : ℤ) → VectorFits (from_stack kept (short x) (short y))
unfolding from_stack
stack_fits kept k x y =
    either VectorFits (eq_z (short x) (pos 0) && eq_z (short y) (pos 0)) k
    (vector_fits (unit_of (short x) (short y)) (unit_in_range (short x) (short y) (short_fits x) (short_fits y)))

module _ {s : GraphicsState} (f : StateInWidth s) where
  -- the projection and the dual vector, and the freedom vector
  measured_within : (v : Vector) → VectorFits v → StateInWidth (with_vectors s (measured_along s.vectors v))
  measured_within v g = with_vectors_fits f (measured_along s.vectors v) (g, g, f.signed.vectors.2)

  moved_within : (v : Vector) → VectorFits v → StateInWidth (with_vectors s (moved_along s.vectors v))
  moved_within v g = with_vectors_fits f (moved_along s.vectors v) (f.signed.vectors.0, f.signed.vectors.1, g)

  pub along_within : (op : ℕ) (v : Vector) → vector_in_range v ≡ true → StateInWidth (along_at s op v)
  unfolding along_at
  along_within op v r = either StateInWidth (ltb op 0x08) (measured_within v (vector_fits v r)) (moved_within v (vector_fits v r))

  pub dual_within : (dual v : Vector) → vector_in_range dual ≡ true → vector_in_range v ≡ true → StateInWidth (dual_at s dual v)
  unfolding dual_at
  dual_within dual v q r = with_vectors_fits f _ (vector_fits v r, vector_fits dual q, f.signed.vectors.2)

  stack_within : (op : ℕ) (x y : ℤ) → StateInWidth (stack_at s op (short x) (short y))
  unfolding stack_at
  stack_within op x y =
      let v = s.vectors in
      either StateInWidth (eqb op 0x0A) (measured_within _ (stack_fits v.projection f.signed.vectors.0 x y)) (moved_within _ (stack_fits v.freedom f.signed.vectors.2 x y))

  on_two_within : (op : ℕ) (operands : List ℤ) → Within (on_two s (λ (y : ℤ). λ (x : ℤ). done_with (stack_at s op (short x) (short y))) operands)
  on_two_within op [] = f
  on_two_within op (y ∷ []) = f
  on_two_within op (y ∷ x ∷ more) = stack_within op x y

  pub vector_within : (op : ℕ) (operands : List ℤ) → StateInWidth (vector_by s op operands).state
  unfolding vector_by followed
  vector_within op operands = either Within (eqb op 0x0E) (moved_within s.vectors.projection f.signed.vectors.0) (on_two_within op operands)
