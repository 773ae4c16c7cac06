-- One point brought into line in the lists lent is one in any world that holds them, so the loop is too. Assumes nothing.
use Rattle.std.specs.Prelude.{⊤, Result, Ok, Err}
use Rattle.answer.specs.declared.Refusal.{Refusal}
use Rattle.graphics.specs.declared.Vector.{Vector}
use Prim.Native.Nat.{ℕ}
use mathlib.Core.List.{List}
use mathlib.Core.Path.{◌≡◌, refl}
use lib.IntN.{ℤ}
use Rattle.graphics.specs.State.{with_loop_counter}
use Rattle.int.specs.Word.{index_of, neg32}
use Rattle.line.specs.declared.Stepped.{Stepped}
use Rattle.line_steps.proofs.Bridge.{done_or_not, looped_is, with_zones, zones_of}
use Rattle.line_steps.proofs.Zones.{zones_in}
use Rattle.line_steps.specs.Loop.{Zones, each, ended}
use Rattle.line_steps.specs.Steps.{by_fetched, done_in, laid_in, move_in, point_or, refused_in}
use Rattle.line.specs.Places.{fetch_in}
use Rattle.projection.specs.Projection.{project_of}
use Rattle.line.specs.World.{Fixed, World, lined}
use Rattle.line_alignrp.specs.Alignrp.{align_point, alignrp_of}
use Rattle.line_alignrp.specs.Loop.{align_at, align_by, align_from, aligning_of}

module _ (w : World) (at : ℕ) where
  by_places : (g h : Result Vector Refusal)
      → by_fetched (refused_in w) (λ place. by_fetched (refused_in w) (λ reference. move_in w.state.pointers.zp1 (neg32 (project_of w.state.vectors place reference)) at w done_in) h) g
      ≡ zones_in w (align_by w.state at (zones_of w) (align_from w.state h g))
  unfolding move_in laid_in align_by
  by_places (Err why) h = refl
  by_places (Ok p) (Err why) = refl
  by_places (Ok p) (Ok q) = done_or_not _ _

step_is : (z : ℤ) (w : World) → align_point z w ≡ zones_in w (align_at w.state (index_of z) (zones_of w))
unfolding point_or aligning_of
step_is z w =
    let s = w.state in
    by_places w (index_of z) (fetch_in (index_of z) w.gx w.gy w.tx w.ty s.pointers.zp1) (fetch_in s.references.rp0 w.gx w.gy w.tx w.ty s.pointers.zp0)

pub alignrp_is : (f : Fixed) (opcode : ℕ) (operands : List ℤ) (w : World) {r : Stepped} {call : Result ⊤ Refusal} {z : Zones}
    → r ≡ record { call = call; state = with_loop_counter w.state 1 } → ended call z ≡ each (align_at w.state) w.state.loop_counter operands (zones_of w)
    → lined r z.glyph.xs z.glyph.ys z.glyph.flags w.tox w.toy z.twilight.xs z.twilight.ys z.twilight.flags ≡ alignrp_of f opcode operands w
unfolding alignrp_of
alignrp_is f opcode = looped_is zones_of with_zones (λ v z. refl) (λ v. refl) (λ v y z. refl) (λ v z. refl) align_point align_at step_is
