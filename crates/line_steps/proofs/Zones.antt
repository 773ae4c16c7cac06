-- A loop over points of zp2: what it leaves of one zone is what the same loop leaves of any world that holds both. One law over the step, and that of a point
-- shifted by a move, of which the lines that shift points are made. Assumes nothing.
use Rattle.std.specs.Prelude.{⊤, Result, Ok, Err}
use Rattle.answer.specs.declared.Refusal.{Refusal}
use Prim.Native.Nat.{ℕ, suc, zero}
use mathlib.Core.Bool.{Bool, cond, false, true}
use mathlib.Core.List.{List, [], ◌∷◌}
use mathlib.Core.Path.{◌≡◌, ap, refl, sym, ◌∙◌}
use lib.IntN.{ℤ}
use Rattle.graphics.specs.State.{with_loop_counter}
use Rattle.graphics.specs.declared.GraphicsState.{GraphicsState}
use Rattle.graphics.specs.declared.ZonePointer.TheVariants.{Glyph, Twilight}
use Rattle.graphics.specs.declared.ZonePointer.{ZonePointer}
use Rattle.int.specs.Word.{index_of}
use Rattle.line.specs.declared.Stepped.{Stepped}
use Rattle.moves.specs.Apply.{apply_in}
use Rattle.moves.specs.Move.{is_idle}
use Rattle.moves.specs.declared.Move.{Move}
use Rattle.line.specs.World.{Lined, World, lined}
use Rattle.line_steps.specs.Loop.{Ended, Points, Zones, each, ended, glyph_left, in_zone, onward, pass, shift_at, shift_unless_idle, twilight_left}
use Rattle.line_steps.specs.Steps.{done_in, each_in, laid_in, looped, shift_point}
use Rattle.line_steps.proofs.Bridge.{done_or_not, each_is, looped_is, with_zones, zones_of}

-- a world with what was done to its zones
abbrev pub zones_in : World → Ended Zones → Lined
zones_in w e = record { call = e.call; world = with_zones w e.left }

-- ---- one step after another in a zone is each step in both
module _ (f : ℕ → Points → Ended Points) where
  abbrev in_the : ZonePointer → ℕ → Zones → Ended Zones
  in_the zone at z = in_zone (f at) z zone

  on_in_glyph : (n : ℕ) (more : List ℤ) (t : Points) → ((z : Zones) → each (in_the Glyph) n more z ≡ in_zone (each f n more) z Glyph)
      → (p : Points) (call : Result ⊤ Refusal) → onward (each (in_the Glyph) n more) (record { glyph = p; twilight = t }) call ≡ glyph_left t (onward (each f n more) p call)
  unfolding onward in_zone
  on_in_glyph n more t h p (Ok tt) = h (record { glyph = p; twilight = t })
  on_in_glyph n more t h p (Err why) = refl

  on_in_twilight : (n : ℕ) (more : List ℤ) (g : Points) → ((z : Zones) → each (in_the Twilight) n more z ≡ in_zone (each f n more) z Twilight)
      → (p : Points) (call : Result ⊤ Refusal) → onward (each (in_the Twilight) n more) (record { glyph = g; twilight = p }) call ≡ twilight_left g (onward (each f n more) p call)
  unfolding onward in_zone
  on_in_twilight n more g h p (Ok tt) = h (record { glyph = g; twilight = p })
  on_in_twilight n more g h p (Err why) = refl

  each_in_zone : (zone : ZonePointer) (n : ℕ) (operands : List ℤ) (z : Zones) → each (in_the zone) n operands z ≡ in_zone (each f n operands) z zone
  unfolding each in_zone
  each_in_zone Glyph zero operands z = refl
  each_in_zone Glyph (suc n) [] z = refl
  each_in_zone Glyph (suc n) (o ∷ more) z = let e = f (index_of o) z.glyph in on_in_glyph n more z.twilight (each_in_zone Glyph n more) e.left e.call
  each_in_zone Twilight zero operands z = refl
  each_in_zone Twilight (suc n) [] z = refl
  each_in_zone Twilight (suc n) (o ∷ more) z = let e = f (index_of o) z.twilight in on_in_twilight n more z.glyph (each_in_zone Twilight n more) e.left e.call

  -- ---- in any world that holds both
  module _ (step : ℤ → World → Lined) (step_is : (o : ℤ) (w : World) → step o w ≡ zones_in w (in_zone (f (index_of o)) (zones_of w) w.state.pointers.zp2)) where
    abbrev in_zp2 : GraphicsState → ℕ → Zones → Ended Zones
    in_zp2 s = in_the s.pointers.zp2

    pub zone_each_is : (n : ℕ) (operands : List ℤ) (w : World) → each_in step n operands w ≡ zones_in w (in_zone (each f n operands) (zones_of w) w.state.pointers.zp2)
    zone_each_is n operands w =
        each_is zones_of with_zones (λ v z. refl) (λ v. refl) (λ v y z. refl) (λ v z. refl) step in_zp2 step_is n operands w
        ∙ ap (zones_in w) (each_in_zone w.state.pointers.zp2 n operands (zones_of w))

    pub zone_looped_is : (operands : List ℤ) (w : World) {r : Stepped} {call : Result ⊤ Refusal} {z : Zones}
        → r ≡ record { call = call; state = with_loop_counter w.state 1 }
        → ended call z ≡ in_zone (each f w.state.loop_counter operands) (zones_of w) w.state.pointers.zp2
        → lined r z.glyph.xs z.glyph.ys z.glyph.flags w.tox w.toy z.twilight.xs z.twilight.ys z.twilight.flags ≡ looped operands w step
    zone_looped_is operands w p e =
        looped_is zones_of with_zones (λ v z. refl) (λ v. refl) (λ v y z. refl) (λ v z. refl) step in_zp2 step_is operands w p
        (e ∙ sym (each_in_zone w.state.pointers.zp2 w.state.loop_counter operands (zones_of w)))

-- ---- a point shifted
laid_is : (m : Move) (at : ℕ) (w : World) (zone : ZonePointer) → laid_in zone m at w done_in ≡ zones_in w (in_zone (shift_at m at) (zones_of w) zone)
unfolding laid_in apply_in in_zone
laid_is m at w Glyph = done_or_not _ _
laid_is m at w Twilight = done_or_not _ _

unless_idle : (idle : Bool) (m : Move) (at : ℕ) (w : World) (zone : ZonePointer) → cond idle (done_in w) (laid_in zone m at w done_in) ≡ zones_in w (in_zone (cond idle pass (shift_at m) at) (zones_of w) zone)
unfolding in_zone
unless_idle true m at w Glyph = refl
unless_idle true m at w Twilight = refl
unless_idle false m at w zone = laid_is m at w zone

pub shift_is : (m : Move) (o : ℤ) (w : World) → shift_point m o w ≡ zones_in w (in_zone (shift_unless_idle m (index_of o)) (zones_of w) w.state.pointers.zp2)
unfolding shift_point
shift_is m o w = unless_idle (is_idle m) m (index_of o) w w.state.pointers.zp2
