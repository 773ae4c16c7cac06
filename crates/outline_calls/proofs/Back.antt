-- The pen that is read back is the one that was written, so calls one after the other are asks one after the other: for every pen. Assumes nothing.
use Rattle.std.specs.Prelude.{Option, Some, None}
use Rattle.outline_numbers.specs.declared.Edges.{Edges}
use mathlib.Core.Path.{◌≡◌, refl, ap, ◌∙◌}
use mathlib.Core.Bool.{true}
use mathlib.Core.List.{List}
use Prim.Native.Nat.{ℕ}
use lib.Ieee.{Float}
use Rattle.outline_steps.specs.Pen.{on_to}
use Rattle.outline_steps.specs.declared.Pen.{Pen}
use Rattle.outline_steps.specs.declared.Stage.{Stage}
use Rattle.outline_steps.specs.declared.Stage.TheVariants.{Between, Onward, Waiting}
use Rattle.outline_steps.specs.declared.Walk.{Walk}
use Rattle.outline_calls.specs.Slots.{stage_in, stage_number, waiting_number, bounds_in, boxed_number, edges_left, pen_in, is_pen, words_of}

stage_back : (s : Stage) → stage_in (stage_number s) (waiting_number s) ≡ s
stage_back Between = refl
stage_back Onward = refl
stage_back (Waiting c) = refl

bounds_back : (b : Option Edges) (old : List Float) → bounds_in (boxed_number b) (edges_left old b) ≡ b
bounds_back None old = refl
bounds_back (Some e) old = refl

pub pen_back : (p : Pen) (old : List Float) → pen_in (words_of p) (edges_left old p.bounds) ≡ p
pen_back p old = let s = stage_back p.walk.stage in let b = bounds_back p.bounds old in
    λ i. record { walk = on_to p.walk p.walk.at (s i); bounds = b i }

-- and its words are a pen's
pub is_pen_back : (p : Pen) → is_pen (words_of p) ≡ true
unfolding is_pen
is_pen_back p = go p.walk.stage p.bounds
  where
    go : (s : Stage) (b : Option Edges) → is_pen (words_of (record { walk = on_to p.walk p.walk.at s; bounds = b })) ≡ true
    go Between None = refl
    go Between (Some e) = refl
    go Onward None = refl
    go Onward (Some e) = refl
    go (Waiting c) None = refl
    go (Waiting c) (Some e) = refl
