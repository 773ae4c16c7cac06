-- IP over the lists lent is IP over any world that holds them: its step, the loop, and the line. Assumes nothing.
use Rattle.std.specs.Prelude.{⊤, Result, Ok, Err}
use Prim.Native.Nat.{ℕ}
use mathlib.Core.Bool.{Bool, cond, false, true}
use mathlib.Core.List.{List}
use mathlib.Core.Path.{◌≡◌, ap, refl, sym, ◌∙◌}
use lib.IntN.{ℤ}
use Rattle.answer.specs.declared.Refusal.{Refusal}
use Rattle.graphics.specs.State.{with_loop_counter}
use Rattle.graphics.specs.declared.GraphicsState.{GraphicsState}
use Rattle.graphics.specs.declared.Vector.{Vector}
use Rattle.int.specs.Word.{index_of}
use Rattle.line.specs.World.{Fixed, Lined, World, lined}
use Rattle.line.specs.declared.Stepped.{Stepped}
use Rattle.line_steps.proofs.Bridge.{done_or_not, each_is, with_zones, zones_of}
use Rattle.line_steps.proofs.Zones.{zones_in}
use Rattle.line_steps.specs.Loop.{Ended, Zones, ended}
use Rattle.line_steps.specs.Steps.{by_fetched, done_in, each_in, in_state, laid_in, move_in, passed_over, point_or, refused_in}
use Rattle.line_ip.specs.Ip.{distance_left, interpolate, ip_of, outline_in, stretch_of}
use Rattle.line_ip.specs.Loop.{interpolate_all, interpolate_at, interpolate_by, interpolate_from, let_pass, place_at}
use Rattle.line_ip.specs.declared.Stretch.{Stretch}

let_pass_is : (w : World) (why : Refusal) (pedantic : Bool) → cond pedantic (refused_in w why) (done_in w) ≡ record { call = let_pass pedantic why; world = w }
unfolding let_pass
let_pass_is w why true = refl
let_pass_is w why false = refl

passed_is : (w : World) (why : Refusal) → passed_over w why ≡ record { call = let_pass w.state.facts.pedantic why; world = w }
unfolding passed_over
passed_is w why = let_pass_is w why w.state.facts.pedantic

-- ---- a point
module _ (outline : ℕ → Vector) (t : Stretch) where
  by_place : (w : World) (at : ℕ) (g : Result Vector Refusal)
      → by_fetched (passed_over w) (λ place. move_in w.state.pointers.zp2 (distance_left w.state.vectors t (outline at) place) at w done_in) g
      ≡ zones_in w (interpolate_by w.state.vectors w.state.facts w.state.pointers.zp2 outline t at (zones_of w) g)
  unfolding move_in laid_in interpolate_by
  by_place w at (Err why) = passed_is w why
  by_place w at (Ok place) = done_or_not _ _

  step_is : (z : ℤ) (w : World) → interpolate outline t z w ≡ zones_in w (interpolate_at w.state.vectors w.state.facts w.state.pointers.zp2 outline t (index_of z) (zones_of w))
  unfolding interpolate point_or
  step_is z w = by_place w (index_of z) (place_at (zones_of w) w.state.pointers.zp2 (index_of z))

-- ---- the line
by_references : (f : Fixed) (operands : List ℤ) (w : World) (g h : Result Vector Refusal)
    → let s = w.state in
    let once = in_state w (with_loop_counter s 1) in
    by_fetched (passed_over once)
    (λ current. by_fetched (passed_over once)
    (λ farCurrent. each_in
    (interpolate (outline_in f w s.pointers.zp2)
    (stretch_of s.vectors (outline_in f w s.pointers.zp0 s.references.rp1) (outline_in f w s.pointers.zp1 s.references.rp2) current farCurrent))
    s.loop_counter operands once)
    h)
    g
    ≡ zones_in once (interpolate_from s (outline_in f w) operands (zones_of w) g h)
unfolding interpolate_from
by_references f operands w (Err why) h = passed_is _ why
by_references f operands w (Ok current) (Err why) = passed_is _ why
by_references f operands w (Ok current) (Ok farCurrent) =
    let s = w.state in
    let outline = outline_in f w s.pointers.zp2 in
    let t = stretch_of s.vectors (outline_in f w s.pointers.zp0 s.references.rp1) (outline_in f w s.pointers.zp1 s.references.rp2) current farCurrent in
    each_is zones_of with_zones (λ v z. refl) (λ v. refl) (λ v y z. refl) (λ v z. refl) (interpolate outline t) (λ (s : GraphicsState). interpolate_at s.vectors s.facts s.pointers.zp2 outline t) (step_is outline t)
    s.loop_counter operands
    (in_state w (with_loop_counter s 1))

pub ip_is : (f : Fixed) (opcode : ℕ) (operands : List ℤ) (w : World) {r : Stepped} {call : Result ⊤ Refusal} {z : Zones}
    → r ≡ record { call = call; state = with_loop_counter w.state 1 } → ended call z ≡ interpolate_all w.state (outline_in f w) operands (zones_of w)
    → lined r z.glyph.xs z.glyph.ys z.glyph.flags w.tox w.toy z.twilight.xs z.twilight.ys z.twilight.flags ≡ ip_of f opcode operands w
unfolding ip_of point_or
ip_is f opcode operands w {z = z} p e =
    let s = w.state in
    ap (λ (r : Stepped). lined r z.glyph.xs z.glyph.ys z.glyph.flags w.tox w.toy z.twilight.xs z.twilight.ys z.twilight.flags) p
    ∙ ap (zones_in (in_state w (with_loop_counter s 1))) e
    ∙ sym (by_references f operands w (place_at (zones_of w) s.pointers.zp0 s.references.rp1) (place_at (zones_of w) s.pointers.zp1 s.references.rp2))
