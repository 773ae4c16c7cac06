-- What the leaves leave alone: the number of flags, the flags of other points, and the other bits of a flag that they change. Each goes by
-- the laws of `set` and by bits. Assumes nothing.
use mathlib.Core.Path.{◌≡◌, refl, sym, ap, ◌∙◌}
use mathlib.Core.Logic.{⊎_elim}
use mathlib.Core.Bool.{Bool}
use mathlib.Core.List.{List, ◌++◌, map}
use Prim.Native.Nat.{ℕ, ◌+◌, ◌-◌, ◌≤◌, ◌<◌}
use native.Mathlib.Omega.{arith}
use lib.Dec.{ltb}
use lib.Bits.{bit_or, bit_xor, or_zero_r}
use lib.ListN.{length, take, drop, get_or, set, length-append, length-drop, length-map, length-set, get_or-append}
use lib.Seq.{get_or-append-add, set_out, set-get_or, length-take-le, get_or-drop, get_or-take, get_or-set_same, get_or-set_other}
use Rattle.int.proofs.Ints.{split}
use Rattle.flags.proofs.Bits.{or_keeps, and_keeps, xor_keeps}
use Rattle.flags.specs.Flag.{bit, cleared, touch_bits}
use Rattle.flags.specs.declared.CoordAxis.{CoordAxis}
use Rattle.zone.proofs.Cases.{range_in, range_reversed, range_out}
use Rattle.zone.specs.Zone.{Marked, change_at, marked_at, or_at, on_curve, over_part, set_on_curve_of}
use Rattle.int.proofs.Tests.{either}

-- ---- one flag
module _ (f : ℕ → ℕ) (flags : List ℕ) (at : ℕ) where
  pub change_length : length (change_at f flags at) ≡ length flags
  change_length = length-set flags at (f (get_or flags at 0))

  pub change_other : (other : ℕ) → (other ≡ at → ⊥) → get_or (change_at f flags at) other 0 ≡ get_or flags other 0
  change_other other h = get_or-set_other flags at other (f (get_or flags at 0)) 0 h

  -- the changed flag keeps each bit that f keeps
  pub change_bit : (k : ℕ) → ((flag : ℕ) → bit k (f flag) ≡ bit k flag) → bit k (get_or (change_at f flags at) at 0) ≡ bit k (get_or flags at 0)
  change_bit k keeps = ⊎_elim
      (λ inside. ap (bit k) (get_or-set_same flags at (f (get_or flags at 0)) 0 inside) ∙ keeps (get_or flags at 0))
      (λ outside. ap (λ (l : List ℕ). bit k (get_or l at 0)) (set_out flags at (f (get_or flags at 0)) outside))
      (split at (length flags))

  pub marked_length : length (marked_at f flags at).flags ≡ length flags
  unfolding marked_at
  marked_length = either (λ (m : Marked). length m.flags ≡ length flags) (ltb at (length flags)) change_length refl

  pub marked_other : (other : ℕ) → (other ≡ at → ⊥) → get_or (marked_at f flags at).flags other 0 ≡ get_or flags other 0
  unfolding marked_at
  marked_other other h = either (λ (m : Marked). get_or m.flags other 0 ≡ get_or flags other 0) (ltb at (length flags)) (change_other other h) refl

  pub marked_bit : (k : ℕ) → ((flag : ℕ) → bit k (f flag) ≡ bit k flag) → bit k (get_or (marked_at f flags at).flags at 0) ≡ bit k (get_or flags at 0)
  unfolding marked_at
  marked_bit k keeps = either (λ (m : Marked). bit k (get_or m.flags at 0) ≡ bit k (get_or flags at 0)) (ltb at (length flags)) (change_bit k keeps) refl

-- touching with no bits leaves every flag
pub or_none : (flags : List ℕ) (at : ℕ) → or_at flags at 0 ≡ flags
or_none flags at = ap (set flags at) (or_zero_r (get_or flags at 0)) ∙ set-get_or flags at 0

-- touch, untouch and a flip keep each bit that is not theirs
pub touch_keeps : (axis : CoordAxis) (k : ℕ) → bit k (touch_bits axis) ≡ 0 → (flag : ℕ) → bit k (bit_or flag (touch_bits axis)) ≡ bit k flag
touch_keeps axis k z flag = or_keeps k flag (touch_bits axis) z

pub untouch_keeps : (axis : CoordAxis) (k : ℕ) → bit k (255 - touch_bits axis) ≡ 1 → (flag : ℕ) → bit k (cleared flag (touch_bits axis)) ≡ bit k flag
untouch_keeps axis k z flag = and_keeps k flag (255 - touch_bits axis) z

pub flip_keeps : (k : ℕ) → bit k 1 ≡ 0 → (flag : ℕ) → bit k (bit_xor flag 1) ≡ bit k flag
flip_keeps k z flag = xor_keeps k flag 1 z

-- ---- a range
module _ {A : Type 0} (f : List A → List A) (same : (l : List A) → length (f l) ≡ length l) (a e : ℕ) (l : List A) (h : a ≤ e) (k : e ≤ length l) where
  front : length (take a l) ≡ a
  front = length-take-le a l (omega arith)

  middle : length (f (take (e - a) (drop a l))) ≡ e - a
  middle = same (take (e - a) (drop a l)) ∙ length-take-le (e - a) (drop a l) (rw length-drop (omega arith))

  pub over_length : length (over_part f a e l) ≡ length l
  unfolding over_part
  over_length = simp (length-append, front, middle, length-drop) (omega arith)

  -- what stands before the part
  pub over_before : (j : ℕ) (d : A) → j < a → get_or (over_part f a e l) j d ≡ get_or l j d
  unfolding over_part
  over_before j d i = get_or-append (take a l) _ d j (rw front i) ∙ get_or-take a l j d i

  -- what stands after the part
  pub over_after : (j : ℕ) (d : A) → get_or (over_part f a e l) (e + j) d ≡ get_or l (e + j) d
  unfolding over_part
  over_after j d =
      ap (λ (n : ℕ). get_or (over_part f a e l) n d) (omega (arith, front, middle))
      ∙ get_or-append-add (take a l) (f (take (e - a) (drop a l)) ++ drop e l) (length (f (take (e - a) (drop a l))) + j) d
      ∙ get_or-append-add (f (take (e - a) (drop a l))) (drop e l) j d
      ∙ get_or-drop e l j d

pub set_on_curve_length : (flags : List ℕ) (start end : ℕ) (on : Bool) → length (set_on_curve_of flags start end on).flags ≡ length flags
set_on_curve_length flags start end on = ⊎_elim
    (λ reversed. ap (λ (m : Marked). length m.flags) (sym (range_reversed flags start end on reversed)))
    (λ ordered. ⊎_elim
    (λ out. ap (λ (m : Marked). length m.flags) (sym (range_out flags start end on ordered out)))
    (λ within. ap (λ (m : Marked). length m.flags) (sym (range_in flags start end on ordered within refl)) ∙ over_length (map (on_curve on)) (λ l. length-map l (on_curve on)) start end flags ordered within)
    (split (length flags) end))
    (split end start)
