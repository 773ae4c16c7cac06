-- What SHP and SHPIX come to in each of their cases, over plain lists: the functions' proofs cite these. Assumes nothing.
use Rattle.std.specs.Prelude.{⊤, Result, Ok, Err}
use Rattle.graphics.specs.declared.Vector.{Vector}
use Prim.Native.Nat.{ℕ, ◌-◌, ◌<◌}
use mathlib.Core.Bool.{false, true}
use mathlib.Core.List.{List, [], ◌∷◌}
use mathlib.Core.Path.{◌≡◌, ap, ap₂, refl, sym, ◌∙◌}
use native.Mathlib.Omega.{arith}
use lib.IntN.{ℤ, pos}
use lib.ListN.{drop, get_or, length, take}
use lib.Seq.{take_all}
use Rattle.answer.specs.declared.Refusal.TheVariants.{Compatibility, Missing}
use Rattle.answer.specs.declared.Refusal.{Refusal}
use Rattle.graphics.specs.State.{with_loop_counter}
use Rattle.graphics.specs.declared.Facts.{Facts}
use Rattle.graphics.specs.declared.Vectors.{Vectors}
use Rattle.graphics.specs.declared.ZonePointer.TheVariants.{Glyph, Twilight}
use Rattle.graphics.specs.declared.ZonePointer.{ZonePointer}
use Rattle.line.specs.Places.{fetch_in}
use Rattle.line.specs.declared.Stepped.{Stepped}
use Rattle.line_steps.proofs.Bridge.{zones_of}
use Rattle.line_steps.proofs.Laws.{first_missing, first_there, reference_is, reference_out, reference_there}
use Rattle.line_steps.proofs.Zones.{shift_is, zone_looped_is}
use Rattle.line_steps.specs.Loop.{Zones, each, ended, in_zone, shift_unless_idle}
use Rattle.line_steps.specs.Steps.{looped, refused_in, shift_point}
use Rattle.math.specs.Fixed.{mul_fix14}
use Rattle.moves.specs.Displacement.{displaced_at, displaced_from, displaced_in, reference_of}
use Rattle.moves.specs.Move.{zp2_move_of}
use Rattle.moves.specs.declared.Displacement.{Displacement}
use Rattle.moves.specs.declared.Move.{Move}
use Rattle.moves.specs.declared.Reference.{Reference}
use Rattle.line.specs.World.{Fixed, Lined, World, lined}
use Rattle.zone.proofs.Tried.{outside, within}
use Rattle.line_shift.specs.Shift.{pixel_move, shp_of, shpix_of}

-- ---- the loop, by any move that is the line's
shifted_by : (operands : List ℤ) (w : World) {m by : Move} {r : Stepped} {call : Result ⊤ Refusal} {z : Zones} → m ≡ by
    → r ≡ record { call = call; state = with_loop_counter w.state 1 }
    → ended call z ≡ in_zone (each (shift_unless_idle m) w.state.loop_counter operands) (zones_of w) w.state.pointers.zp2
    → lined r z.glyph.xs z.glyph.ys z.glyph.flags w.tox w.toy z.twilight.xs z.twilight.ys z.twilight.flags ≡ looped operands w (shift_point by)
shifted_by operands w {m = m} e p q =
    zone_looped_is (shift_unless_idle m) (shift_point m) (shift_is m) operands w p q ∙ ap (λ (by : Move). looped operands w (shift_point by)) e

-- ---- SHP
-- the zone chosen at each place that is read
module _ (v : Vectors) (p : Reference) (gox goy gx gy tox toy tx ty : List ℤ) where
  in_zone_lem : (zone : ZonePointer) → displaced_from v p (fetch_in p.at gox goy tox toy zone) (fetch_in p.at gx gy tx ty zone) ≡ displaced_in v p gox goy gx gy tox toy tx ty zone
  unfolding displaced_in displaced_at fetch_in
  in_zone_lem Glyph = refl
  in_zone_lem Twilight = refl

  pub current_read : {here h : Result Vector Refusal} → here ≡ fetch_in p.at gx gy tx ty p.zone → here ≡ h
      → displaced_from v p (fetch_in p.at gox goy tox toy p.zone) h ≡ displaced_in v p gox goy gx gy tox toy tx ty p.zone
  current_read e q = ap (displaced_from v p (fetch_in p.at gox goy tox toy p.zone)) (sym q ∙ e) ∙ in_zone_lem p.zone

  pub both_read : {here h there t : Result Vector Refusal} → here ≡ fetch_in p.at gx gy tx ty p.zone → here ≡ h → there ≡ fetch_in p.at gox goy tox toy p.zone → there ≡ t
      → displaced_from v p t h ≡ displaced_in v p gox goy gx gy tox toy tx ty p.zone
  both_read {h = h} e q f r = ap (λ (original : Result Vector Refusal). displaced_from v p original h) (sym r ∙ f) ∙ current_read e q

module _ (f : Fixed) (opcode : ℕ) (operands : List ℤ) (w : World) {p : Reference} {d : Result Displacement Refusal} (e : p ≡ reference_of w.state opcode)
    (q : d ≡ displaced_in w.state.vectors p f.gox f.goy w.gx w.gy w.tox w.toy w.tx w.ty p.zone) where
  pub shp_refused : {why : Refusal} {r : Lined} → d ≡ Err why → r ≡ refused_in w why → r ≡ shp_of f opcode operands w
  unfolding shp_of
  shp_refused h k = reference_out w f opcode _ (reference_is w f opcode e q) h k

  pub shp_shifted : {by : Displacement} {x y : ℤ} {m : Move} {r : Stepped} {call : Result ⊤ Refusal} {z : Zones} → d ≡ Ok by
      → m ≡ zp2_move_of w.state.vectors w.state.facts x y true → x ≡ by.dx → y ≡ by.dy
      → r ≡ record { call = call; state = with_loop_counter w.state 1 }
      → ended call z ≡ in_zone (each (shift_unless_idle m) w.state.loop_counter operands) (zones_of w) w.state.pointers.zp2
      → lined r z.glyph.xs z.glyph.ys z.glyph.flags w.tox w.toy z.twilight.xs z.twilight.ys z.twilight.flags ≡ shp_of f opcode operands w
  unfolding shp_of
  shp_shifted h m i j k l =
      reference_there w f opcode _ (reference_is w f opcode e q) h
      (shifted_by operands w (m ∙ ap₂ (λ (x y : ℤ). zp2_move_of w.state.vectors w.state.facts x y true) i j) k l)

-- ---- SHPIX
-- what is laid along each axis is made a move
pub laid_along : (v : Vectors) (f : Facts) (amount : ℤ) {m : Move} {x y dx dy fx fy by-x by-y : ℤ} → m ≡ zp2_move_of v f x y true → x ≡ dx → y ≡ dy → dx ≡ mul_fix14 by-x fx → dy ≡ mul_fix14 by-y fy → by-x ≡ amount → by-y ≡ amount → fx ≡ v.freedom.x → fy ≡ v.freedom.y → m ≡ pixel_move v f amount
laid_along v f amount e p q a b i j g h =
    e ∙ ap₂ (λ (dx dy : ℤ). zp2_move_of v f dx dy true) (p ∙ a ∙ ap₂ mul_fix14 i g) (q ∙ b ∙ ap₂ mul_fix14 j h)

-- the operands behind the amount
behind : (operands : List ℤ) → 0 < length operands → take (length operands - 1) (drop 1 operands) ≡ drop 1 operands
behind [] h = absurd (omega arith)
behind (amount ∷ points) h = take_all (length (amount ∷ points) - 1) points (omega arith)

module _ (f : Fixed) (opcode : ℕ) (operands : List ℤ) (w : World) where
  pub compatible : {r : Lined} → w.state.facts.backward_compatibility ≡ true → r ≡ refused_in w Compatibility → r ≡ shpix_of f opcode operands w
  unfolding shpix_of
  compatible h e = within _ refl h e

  pub no_amount : {r : Lined} → w.state.facts.backward_compatibility ≡ false → length operands ≡ 0 → r ≡ refused_in w Missing → r ≡ shpix_of f opcode operands w
  unfolding shpix_of
  no_amount h k e = first_missing w operands _ (omega arith) e ∙ outside _ _ refl h

  -- the first operand is the amount, and the rest are points
  pub amount_first : {amount : ℤ} {m : Move} {r : Stepped} {call : Result ⊤ Refusal} {z : Zones} → w.state.facts.backward_compatibility ≡ false → 0 < length operands
      → m ≡ pixel_move w.state.vectors w.state.facts amount → amount ≡ get_or operands 0 (pos 0)
      → r ≡ record { call = call; state = with_loop_counter w.state 1 }
      → ended call z ≡ in_zone (each (shift_unless_idle m) w.state.loop_counter (take (length operands - 1) (drop 1 operands))) (zones_of w) w.state.pointers.zp2
      → lined r z.glyph.xs z.glyph.ys z.glyph.flags w.tox w.toy z.twilight.xs z.twilight.ys z.twilight.flags ≡ shpix_of f opcode operands w
  unfolding shpix_of
  amount_first {m = m} h g e a k l =
      first_there w operands _ (omega (arith, g))
      (shifted_by (drop 1 operands) w (e ∙ ap (pixel_move w.state.vectors w.state.facts) a) k
      (l ∙ ap (λ (points : List ℤ). in_zone (each (shift_unless_idle m) w.state.loop_counter points) (zones_of w) w.state.pointers.zp2) (behind operands g)))
      ∙ outside _ _ refl h
