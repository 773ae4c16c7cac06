-- A span over the zones lent is the span over any world that holds them. Assumes nothing.
use Rattle.std.specs.Prelude.{⊤, Result, Ok, Err}
use Rattle.answer.specs.declared.Refusal.{Refusal}
use Prim.Native.Nat.{ℕ, ◌-◌}
use mathlib.Core.Bool.{Bool, ◌&&◌, cond, false, true}
use mathlib.Core.Path.{◌≡◌, ap, refl, sym, ◌∙◌}
use lib.Dec.{eqb}
use lib.IntN.{ℤ}
use Rattle.graphics.specs.declared.ZonePointer.TheVariants.{Glyph, Twilight}
use Rattle.graphics.specs.declared.ZonePointer.{ZonePointer}
use Rattle.int.specs.Word.{index_of}
use Rattle.line_steps.proofs.Bridge.{zones_of}
use Rattle.line_steps.proofs.Zones.{shift_is, zone_each_is, zones_in}
use Rattle.line_steps.specs.Loop.{Zones, ended, in_zone, pass, shift_unless_idle}
use Rattle.line_steps.specs.Steps.{by_displaced, reference_in, reference_moved, done_in, each_in, shift_point}
use Rattle.moves.specs.Displacement.{reference_of}
use Rattle.moves.specs.Move.{zp2_move_of}
use Rattle.moves.specs.declared.Displacement.{Displacement}
use Rattle.moves.specs.declared.Move.{Move}
use Rattle.moves.specs.declared.Reference.{Reference}
use Rattle.line.specs.World.{Fixed, Lined, World, lined}
use Rattle.line_span.specs.Span.{points_from, same_zone, shift_but, span_in}
use Rattle.line_span.specs.Steps.{shift_but_at, shift_span, span_by, span_of}

-- ---- one point
passed : (at : ℕ) (w : World) (zone : ZonePointer) → done_in w ≡ zones_in w (in_zone (pass at) (zones_of w) zone)
unfolding in_zone
passed at w Glyph = refl
passed at w Twilight = refl

module _ (m : Move) (keeps : Bool) (kept : ℕ) where
  by_kept : (keep : Bool) (point : ℤ) (w : World)
      → cond keep (done_in w) (shift_point m point w)
      ≡ zones_in w (in_zone (λ p. cond keep (pass (index_of point) p) (shift_unless_idle m (index_of point) p)) (zones_of w) w.state.pointers.zp2)
  by_kept true point w = passed (index_of point) w w.state.pointers.zp2
  by_kept false point w = shift_is m point w

  step_is : (point : ℤ) (w : World) → shift_but m keeps kept point w ≡ zones_in w (in_zone (shift_but_at m keeps kept (index_of point)) (zones_of w) w.state.pointers.zp2)
  unfolding shift_but
  step_is point w = by_kept (keeps && eqb (index_of point) kept) point w

-- ---- the span
module _ (f : Fixed) (opcode : ℕ) (touches : Bool) (start end : ℕ) (w : World) where
  abbrev moved : Displacement → Lined
  moved d =
      let m = zp2_move_of w.state.vectors w.state.facts d.dx d.dy touches in
      each_in (shift_but m (same_zone d.zone w.state.pointers.zp2) d.at) (end - start) (points_from start (end - start)) w

  by_displaced_lem : (d : Result Displacement Refusal) → zones_in w (span_by w.state.vectors w.state.facts w.state.pointers.zp2 touches start end (zones_of w) d) ≡ by_displaced w moved d
  unfolding span_by shift_span
  by_displaced_lem (Ok d) =
      let m = zp2_move_of w.state.vectors w.state.facts d.dx d.dy touches in
      let keeps = same_zone d.zone w.state.pointers.zp2 in
      sym (zone_each_is (shift_but_at m keeps d.at) (shift_but m keeps d.at) (step_is m keeps d.at) (end - start) (points_from start (end - start)) w)
  by_displaced_lem (Err why) = refl

  pub span_is : {p : Reference} {call : Result ⊤ Refusal} {z : Zones} → p ≡ reference_of w.state opcode
      → ended call z ≡ span_of w.state.vectors w.state.facts w.state.pointers.zp2 p touches start end f.gox f.goy w.tox w.toy (zones_of w)
      → lined (record { call = call; state = w.state }) z.glyph.xs z.glyph.ys z.glyph.flags w.tox w.toy z.twilight.xs z.twilight.ys z.twilight.flags
      ≡ span_in f opcode touches start end w
  unfolding span_in reference_in span_of
  span_is r e =
      ap (zones_in w) (e ∙ ap (λ (p : Reference). span_of w.state.vectors w.state.facts w.state.pointers.zp2 p touches start end f.gox f.goy w.tox w.toy (zones_of w)) r)
      ∙ by_displaced_lem (reference_moved f opcode w)
