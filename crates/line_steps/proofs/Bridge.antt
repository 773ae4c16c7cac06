-- The loop over what a line works on is the loop over any world that holds it: one law over the step, for flags, for one zone and for both. Assumes nothing.
use Rattle.std.specs.Prelude.{⊤, Result, Ok, Err}
use Rattle.answer.specs.declared.Refusal.{Refusal}
use Prim.Native.Nat.{ℕ, suc, zero}
use mathlib.Core.List.{List, [], ◌∷◌}
use mathlib.Core.Path.{◌≡◌, ap, refl, sym, ◌∙◌}
use lib.IntN.{ℤ}
use Rattle.answer.specs.declared.Refusal.TheVariants.{Missing}
use Rattle.graphics.specs.State.{with_loop_counter}
use Rattle.graphics.specs.declared.GraphicsState.{GraphicsState}
use Rattle.int.specs.Word.{index_of}
use Rattle.line.specs.declared.Stepped.{Stepped}
use Rattle.line.specs.World.{Lined, World, world}
use Rattle.line_steps.specs.Loop.{Ended, Points, Zones, each, ended, onward, points, zones}
use Rattle.line_steps.specs.Steps.{by_call, done_in, each_in, in_state, looped, refused_in}

-- ---- what a line works on, in a world
abbrev pub glyph_of : World → Points
glyph_of w = points w.gx w.gy w.gflags

abbrev pub with_glyph : World → Points → World
with_glyph w p = world w.state p.xs p.ys p.flags w.tox w.toy w.tx w.ty w.tflags

abbrev pub twilight_of : World → Points
twilight_of w = points w.tx w.ty w.tflags

abbrev pub with_twilight : World → Points → World
with_twilight w p = world w.state w.gx w.gy w.gflags w.tox w.toy p.xs p.ys p.flags

abbrev pub zones_of : World → Zones
zones_of w = zones w.gx w.gy w.gflags w.tx w.ty w.tflags

abbrev pub with_zones : World → Zones → World
with_zones w z = world w.state z.glyph.xs z.glyph.ys z.glyph.flags w.tox w.toy z.twilight.xs z.twilight.ys z.twilight.flags

abbrev pub flags_of : World → List ℕ
flags_of w = w.gflags

abbrev pub with_flags : World → List ℕ → World
with_flags w flags = world w.state w.gx w.gy flags w.tox w.toy w.tx w.ty w.tflags

-- ---- a line that ends with a call
pub done_or_not : (w : World) (call : Result ⊤ Refusal) → by_call w done_in call ≡ record { call = call; world = w }
done_or_not w (Ok tt) = refl
done_or_not w (Err why) = refl

-- ---- the law. What is put in is what is found, and nothing else is another; for the pairs above each premise is refl
module _ {S : Type 0} (of : World → S) (put : World → S → World)
    (found : (w : World) (s : S) → of (put w s) ≡ s) (own : (w : World) → put w (of w) ≡ w)
    (again : (w : World) (s t : S) → put (put w s) t ≡ put w t) (state : (w : World) (s : S) → (put w s).state ≡ w.state) where
  abbrev pub carried : World → Ended S → Lined
  carried w e = record { call = e.call; world = put w e.left }

  module _ (step : ℤ → World → Lined) (at : GraphicsState → ℕ → S → Ended S)
      (step_is : (z : ℤ) (w : World) → step z w ≡ carried w (at w.state (index_of z) (of w))) where
    carried_on : (n : ℕ) (more : List ℤ) → ((v : World) → each_in step n more v ≡ carried v (each (at v.state) n more (of v)))
        → (call : Result ⊤ Refusal) (w : World) (s : S) → by_call (put w s) (each_in step n more) call ≡ carried w (onward (each (at w.state) n more) s call)
    unfolding onward
    carried_on n more h (Ok tt) w s =
        h (put w s)
        ∙ ap (λ (g : GraphicsState). carried (put w s) (each (at g) n more (of (put w s)))) (state w s)
        ∙ ap (λ (t : S). carried (put w s) (each (at w.state) n more t)) (found w s)
        ∙ ap (λ (v : World). record { call = (each (at w.state) n more s).call; world = v }) (again w s (each (at w.state) n more s).left)
    carried_on n more h (Err why) w s = refl

    pub each_is : (n : ℕ) (operands : List ℤ) (w : World) → each_in step n operands w ≡ carried w (each (at w.state) n operands (of w))
    unfolding each_in each
    each_is zero operands w = ap done_in (sym (own w))
    each_is (suc n) [] w = ap (λ (v : World). refused_in v Missing) (sym (own w))
    each_is (suc n) (z ∷ more) w =
        let e = at w.state (index_of z) (of w) in
        ap (λ (l : Lined). by_call l.world (each_in step n more) l.call) (step_is z w) ∙ carried_on n more (each_is n more) e.call w e.left

    -- the same of a looped line, whose counter is put back at its end
    pub looped_is : (operands : List ℤ) (w : World) {r : Stepped} {call : Result ⊤ Refusal} {s : S}
        → r ≡ record { call = call; state = with_loop_counter w.state 1 } → ended call s ≡ each (at w.state) w.state.loop_counter operands (of w)
        → record { call = r.call; world = in_state (put w s) r.state } ≡ looped operands w step
    looped_is operands w {call = call} {s = s} p e =
        ap (λ (t : Stepped). record { call = t.call; world = in_state (put w s) t.state }) p
        ∙ ap (λ (g : GraphicsState). record { call = call; world = in_state (put w s) (with_loop_counter g 1) }) (sym (state w s))
        ∙ ap (λ (l : Lined). record { call = l.call; world = in_state l.world (with_loop_counter l.world.state 1) }) (ap (carried w) e ∙ sym (each_is w.state.loop_counter operands w))
