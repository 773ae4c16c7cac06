-- A line that sets a measure leaves a state that the state test lets in: the test reads the vectors and the round state alone. Assumes nothing.
use Prim.Native.Nat.{ℕ}
use mathlib.Core.Bool.{Bool, true, false}
use mathlib.Core.List.{List, [], ◌∷◌}
use mathlib.Core.Path.{◌≡◌, refl}
use lib.Dec.{leb}
use lib.IntN.{ℤ}
use Rattle.graphics.specs.State.{usable_state}
use Rattle.graphics.specs.declared.GraphicsState.{GraphicsState}
use Rattle.graphics.specs.declared.Measures.{Measures}
use Rattle.line_sizes.specs.Sizes.{with_measures, flip_by, size_by, measure_by}

pub usable_measures : (s : GraphicsState) (m : Measures) → usable_state (with_measures s m) ≡ usable_state s
unfolding usable_state
usable_measures s m = refl

by_kind : (flips : Bool) (s : GraphicsState) (op : ℕ) (operands : List ℤ) → leb 0x4D op ≡ flips → usable_state (measure_by s op operands).state ≡ usable_state s
unfolding measure_by flip_by size_by usable_state
by_kind true s op operands e = rw e refl
by_kind false s op [] e = rw e refl
by_kind false s op (word ∷ words) e = rw e refl

pub measure_usable : (s : GraphicsState) (op : ℕ) (operands : List ℤ) → usable_state (measure_by s op operands).state ≡ usable_state s
measure_usable s op operands = by_kind (leb 0x4D op) s op operands refl
