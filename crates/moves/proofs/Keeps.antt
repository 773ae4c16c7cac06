-- What a move leaves alone: an axis that does not move, other points, other bits of the flag that it touches, and the lengths of the lists.
-- Each goes by the laws of `set` on one list. Assumes nothing.
use mathlib.Core.Path.{◌≡◌, refl}
use mathlib.Core.Bool.{and-false, Bool, true, false}
use mathlib.Core.List.{List}
use Prim.Native.Nat.{ℕ}
use lib.Dec.{ltb}
use lib.IntN.{ℤ, pos}
use lib.Bits.{bit_or}
use lib.ListN.{length, get_or, length-set}
use lib.Seq.{get_or-set_other}
use Rattle.graphics.specs.declared.Facts.{Facts}
use Rattle.graphics.specs.declared.Vectors.{Vectors}
use Rattle.int.specs.Word.{add32}
use Rattle.moves.specs.Apply.{Shifted, shift_of, Moved, apply_of}
use Rattle.moves.specs.Move.{is_not0, step_along, is_exempt, move_of, zp2_move_of, moved_at}
use Rattle.moves.specs.declared.Move.{Move}
use Rattle.flags.proofs.Bits.{or_keeps}
use Rattle.flags.specs.Flag.{bit}
use Rattle.int.proofs.Tests.{either}
use Rattle.zone.proofs.Keeps.{change_length, change_other, change_bit}

-- ---- one axis
module _ (l : List ℤ) (at : ℕ) (by : ℤ) where
  -- the very same list
  pub kept_axis : moved_at l at by false ≡ l
  kept_axis = refl

  pub moved_length : (moves : Bool) → length (moved_at l at by moves) ≡ length l
  moved_length true = length-set l at (add32 (get_or l at (pos 0)) by)
  moved_length false = refl

  pub moved_other : (moves : Bool) (other : ℕ) → (other ≡ at → ⊥) → get_or (moved_at l at by moves) other (pos 0) ≡ get_or l other (pos 0)
  moved_other true other h = get_or-set_other l at other (add32 (get_or l at (pos 0)) by) (pos 0) h
  moved_other false other h = refl

-- ---- one zone
module _ (m : Move) (at : ℕ) (xs ys : List ℤ) where
  pub shift_lengths : (length (shift_of m at xs ys).xs ≡ length xs) × (length (shift_of m at xs ys).ys ≡ length ys)
  unfolding shift_of
  shift_lengths =
      either (λ (s : Shifted). (length s.xs ≡ length xs) × (length s.ys ≡ length ys)) (ltb at (length xs))
      (moved_length xs at m.dx m.moves_x, moved_length ys at m.dy m.moves_y)
      (refl, refl)

  module _ (flags : List ℕ) where
    pub apply_lengths : (length (apply_of m at xs ys flags).xs ≡ length xs) × (length (apply_of m at xs ys flags).ys ≡ length ys) × (length (apply_of m at xs ys flags).flags ≡ length flags)
    unfolding apply_of
    apply_lengths =
        either (λ (s : Moved). (length s.xs ≡ length xs) × (length s.ys ≡ length ys) × (length s.flags ≡ length flags)) (ltb at (length xs))
        (moved_length xs at m.dx m.moves_x, moved_length ys at m.dy m.moves_y, change_length (λ (flag : ℕ). bit_or flag m.touch) flags at)
        (refl, refl, refl)

    -- every other point stays where it was, with its flag
    pub apply_other : (other : ℕ) → (other ≡ at → ⊥) → (get_or (apply_of m at xs ys flags).xs other (pos 0) ≡ get_or xs other (pos 0)) × (get_or (apply_of m at xs ys flags).ys other (pos 0) ≡ get_or ys other (pos 0)) × (get_or (apply_of m at xs ys flags).flags other 0 ≡ get_or flags other 0)
    unfolding apply_of
    apply_other other h =
        either (λ (s : Moved). (get_or s.xs other (pos 0) ≡ get_or xs other (pos 0)) × (get_or s.ys other (pos 0) ≡ get_or ys other (pos 0)) × (get_or s.flags other 0 ≡ get_or flags other 0)) (ltb at (length xs))
        (moved_other xs at m.dx m.moves_x other h, moved_other ys at m.dy m.moves_y other h, change_other (λ (flag : ℕ). bit_or flag m.touch) flags at other h)
        (refl, refl, refl)

    -- the point keeps each bit that the move does not touch
    pub apply_bit : (k : ℕ) → bit k m.touch ≡ 0 → bit k (get_or (apply_of m at xs ys flags).flags at 0) ≡ bit k (get_or flags at 0)
    unfolding apply_of
    apply_bit k z =
        either (λ (s : Moved). bit k (get_or s.flags at 0) ≡ bit k (get_or flags at 0)) (ltb at (length xs))
        (change_bit (λ (flag : ℕ). bit_or flag m.touch) flags at k (λ flag. or_keeps k flag m.touch z))
        refl

-- ---- what a move never does
-- x is never moved under backward compatibility, unless docs/src's exception holds
pub compatible_x : (v : Vectors) (f : Facts) (d : ℤ) → f.backward_compatibility ≡ true → is_exempt v ≡ false → (move_of v f d).moves_x ≡ false
unfolding move_of
compatible_x v f d b e = rw (b, e) (and-false (step_along v d).moves_x)

-- SHP's move never moves x under backward compatibility
pub compatible_zp2 : (v : Vectors) (f : Facts) (dx dy : ℤ) (touches : Bool) → f.backward_compatibility ≡ true → (zp2_move_of v f dx dy touches).moves_x ≡ false
unfolding zp2_move_of
compatible_zp2 v f dx dy touches b = rw b (and-false (is_not0 v.freedom.x))
