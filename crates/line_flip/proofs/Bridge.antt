-- One point flipped in the flags lent is one in any world that holds them, so the loop is too. Assumes nothing.
use Rattle.std.specs.Prelude.{⊤, Result}
use Rattle.answer.specs.declared.Refusal.{Refusal}
use Prim.Native.Nat.{ℕ}
use mathlib.Core.Bool.{Bool, cond, false, true}
use mathlib.Core.List.{List}
use mathlib.Core.Path.{◌≡◌, ap, refl, ◌∙◌}
use lib.IntN.{ℤ}
use Rattle.graphics.specs.State.{past_both_iups, with_loop_counter}
use Rattle.graphics.specs.declared.GraphicsState.{GraphicsState}
use Rattle.int.specs.Word.{index_of}
use Rattle.line.specs.declared.Stepped.{Stepped}
use Rattle.line_steps.proofs.Bridge.{flags_of, looped_is, with_flags}
use Rattle.line_steps.specs.Loop.{Ended, each, ended}
use Rattle.line_steps.specs.Steps.{done_in, flags_in}
use Rattle.line.specs.World.{Fixed, Lined, World, lined}
use Rattle.zone.specs.Zone.{flip_of}
use Rattle.line_flip.specs.Flip.{flip_point, flippt_of}
use Rattle.line_flip.specs.Steps.{flip_unless}

-- a world with what was done to its flags
abbrev flagged : World → Ended (List ℕ) → Lined
flagged w e = record { call = e.call; world = with_flags w e.left }

unless_held : (held : Bool) (at : ℕ) (w : World) → cond held (done_in w) (flags_in w (flip_of w.gflags at)) ≡ flagged w (flip_unless held at w.gflags)
unless_held true at w = refl
unless_held false at w = refl

abbrev flip_in : GraphicsState → ℕ → List ℕ → Ended (List ℕ)
flip_in s = flip_unless (past_both_iups s.facts)

step_is : (o : ℤ) (w : World) → flip_point o w ≡ flagged w (flip_in w.state (index_of o) w.gflags)
unfolding flip_point
step_is o w = unless_held (past_both_iups w.state.facts) (index_of o) w

pub flippt_is : (f : Fixed) (opcode : ℕ) (operands : List ℤ) (w : World) {r : Stepped} {held : Bool} {call : Result ⊤ Refusal} {flags : List ℕ}
    → r ≡ record { call = call; state = with_loop_counter w.state 1 } → held ≡ past_both_iups w.state.facts
    → ended call flags ≡ each (flip_unless held) w.state.loop_counter operands w.gflags
    → lined r w.gx w.gy flags w.tox w.toy w.tx w.ty w.tflags ≡ flippt_of f opcode operands w
unfolding flippt_of
flippt_is f opcode operands w p h e =
    looped_is flags_of with_flags (λ v l. refl) (λ v. refl) (λ v k l. refl) (λ v l. refl) flip_point flip_in step_is operands w p
    (e ∙ ap (λ (held : Bool). each (flip_unless held) w.state.loop_counter operands w.gflags) h)
