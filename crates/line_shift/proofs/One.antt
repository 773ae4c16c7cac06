-- What a shift of one point comes to in the zone that a pointer names, where the loop counter is 1. Assumes nothing.
use Rattle.std.specs.Prelude.{⊤, Result, Ok, Err}
use Rattle.answer.specs.declared.Refusal.{Refusal}
use Prim.Native.Nat.{ℕ}
use mathlib.Core.Bool.{false, true}
use mathlib.Core.List.{List}
use mathlib.Core.Path.{◌≡◌, ap, refl, ◌∙◌}
use lib.IntN.{ℤ, pos}
use lib.ListN.{get_or, length}
use Rattle.answer.specs.declared.Refusal.TheVariants.{Missing}
use Rattle.graphics.specs.declared.ZonePointer.TheVariants.{Glyph, Twilight}
use Rattle.graphics.specs.declared.ZonePointer.{ZonePointer}
use Rattle.int.specs.Word.{index_of}
use Rattle.line_steps.proofs.Walk.{once_missing, once_there}
use Rattle.line_steps.specs.Loop.{Ended, Points, Zones, each, ended, glyph_left, in_zone, points, shift_at, shift_unless_idle, twilight_left, zones}
use Rattle.moves.specs.Apply.{BothMoved, apply_in, both_moved}
use Rattle.moves.specs.Move.{is_idle}
use Rattle.moves.specs.declared.Move.{Move}

module _ (m : Move) (operands : List ℤ) where
  pub one_missing : (z : Zones) (zone : ZonePointer) → length operands ≡ 0 → ended (Err Missing) z ≡ in_zone (each (shift_unless_idle m) 1 operands) z zone
  unfolding in_zone
  one_missing z Glyph e = ap (glyph_left z.twilight) (once_missing (shift_unless_idle m) operands z.glyph e)
  one_missing z Twilight e = ap (twilight_left z.glyph) (once_missing (shift_unless_idle m) operands z.twilight e)

  module _ (n : length operands ≡ 0 → ⊥) where
    idle_step : (s : Points) → is_idle m ≡ true → ended (Ok tt) s ≡ each (shift_unless_idle m) 1 operands s
    idle_step s i = rw i refl ∙ once_there (shift_unless_idle m) operands s n

    pub one_idle : (z : Zones) (zone : ZonePointer) → is_idle m ≡ true → ended (Ok tt) z ≡ in_zone (each (shift_unless_idle m) 1 operands) z zone
    unfolding in_zone
    one_idle z Glyph i = ap (glyph_left z.twilight) (idle_step z.glyph i)
    one_idle z Twilight i = ap (twilight_left z.glyph) (idle_step z.twilight i)

    moved_step : (s : Points) → is_idle m ≡ false → shift_at m (index_of (get_or operands 0 (pos 0))) s ≡ each (shift_unless_idle m) 1 operands s
    moved_step s i = rw i refl ∙ once_there (shift_unless_idle m) operands s n

    -- what is laid on both zones
    abbrev left : BothMoved → Ended Zones
    left b = ended b.call (zones b.gx b.gy b.gflags b.tx b.ty b.tflags)

    module _ (gx gy : List ℤ) (gflags : List ℕ) (tx ty : List ℤ) (tflags : List ℕ) (i : is_idle m ≡ false) where
      laid : (zone : ZonePointer) → left (apply_in m (index_of (get_or operands 0 (pos 0))) gx gy gflags tx ty tflags zone) ≡ in_zone (each (shift_unless_idle m) 1 operands) (zones gx gy gflags tx ty tflags) zone
      unfolding apply_in in_zone
      laid Glyph = ap (glyph_left (points tx ty tflags)) (moved_step (points gx gy gflags) i)
      laid Twilight = ap (twilight_left (points gx gy gflags)) (moved_step (points tx ty tflags) i)

      pub one_moved :
          (zone : ZonePointer) {at : ℕ} {call : Result ⊤ Refusal} {gx' gy' : List ℤ} {gflags' : List ℕ} {tx' ty' : List ℤ} {tflags' : List ℕ} → at ≡ index_of (get_or operands 0 (pos 0)) →
          both_moved call gx' gy' gflags' tx' ty' tflags' ≡ apply_in m at gx gy gflags tx ty tflags zone → ended call (zones gx' gy' gflags' tx' ty' tflags') ≡ in_zone (each (shift_unless_idle m) 1 operands) (zones gx gy gflags tx ty tflags) zone
      one_moved zone e q = ap left (q ∙ ap (λ (at : ℕ). apply_in m at gx gy gflags tx ty tflags zone) e) ∙ laid zone

-- the loop counter is what was counted, and the zone the one that was pointed to
pub counted : (m : Move) (operands : List ℤ) (z : Zones) {count : ℕ} {zone zone' : ZonePointer} → count ≡ 1 → zone ≡ zone' → in_zone (each (shift_unless_idle m) 1 operands) z zone ≡ in_zone (each (shift_unless_idle m) count operands) z zone'
counted m operands z e q = rw (e, q) refl
