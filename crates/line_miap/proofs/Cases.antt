-- MIAP in each of its cases, over a plain world: the laws of its steps, in their order. Assumes nothing.
use Rattle.std.specs.Prelude.{Result, Ok, Err}
use Prim.Native.Nat.{ℕ, ◌≤◌, ◌<◌}
use mathlib.Core.Bool.{Bool}
use mathlib.Core.List.{List}
use mathlib.Core.Path.{◌≡◌}
use lib.IntN.{ℤ, pos}
use lib.ListN.{get_or, length}
use Rattle.answer.specs.declared.Refusal.TheVariants.{ControlValue, Missing}
use Rattle.answer.specs.declared.Refusal.{Refusal}
use Rattle.graphics.specs.declared.Vector.{Vector}
use Rattle.line_steps.proofs.Laws.{control_there, no_control, point_out, point_there, rounded_by, two_missing, two_there}
use Rattle.line_steps.specs.Numbers.{from_origin}
use Rattle.line_steps.specs.Steps.{after_move, done_in, made_in, on_both, refused_in, rounded_in}
use Rattle.round.specs.declared.Tracked.{Tracked}
use Rattle.moves.specs.Apply.{BothMoved, apply_in}
use Rattle.moves.specs.Move.{move_of}
use Rattle.moves.specs.declared.Move.{Move}
use Rattle.line.specs.Operands.{index_at, is_odd}
use Rattle.line.specs.Places.{fetch_in}
use Rattle.line.specs.World.{Fixed, Lined, World}
use Rattle.line_miap.specs.Miap.{miap_of}
use Rattle.line_miap.specs.Numbers.{control_place, miap_distance}

-- ---- the line
module _ (f : Fixed) (opcode : ℕ) (operands : List ℤ) (w : World) {r : Lined} where
  pub miap_missing : length operands < 2 → r ≡ refused_in w Missing → r ≡ miap_of f opcode operands w
  unfolding miap_of
  miap_missing h e = two_missing w operands _ h e

  pub miap_no_control : {entry : ℕ} → 2 ≤ length operands → entry ≡ index_at operands 0 → length f.controls ≤ entry → r ≡ refused_in w (ControlValue entry) → r ≡ miap_of f opcode operands w
  unfolding miap_of
  miap_no_control {entry = entry} h i k e = two_there w operands _ h (rw (← i) (no_control w f entry _ k e))

  -- ---- both operands and the control value are there
  module _ {entry at : ℕ} {control : ℤ} (h : 2 ≤ length operands) (i : entry ≡ index_at operands 0) (j : at ≡ index_at operands 1) (k : entry < length f.controls) (v : control ≡ get_or f.controls entry (pos 0)) (made : World) (q : made ≡ made_in at (control_place w.state.vectors.freedom control) w w.state.pointers.zp0) {g : Result Vector Refusal} (e : g ≡ fetch_in at made.gx made.gy made.tx made.ty w.state.pointers.zp0) where
    pub miap_outside : {why : Refusal} → g ≡ Err why → r ≡ refused_in made why → r ≡ miap_of f opcode operands w
    unfolding miap_of
    miap_outside t p =
        two_there w operands _ h (rw (← i, ← j) (control_there w f entry _ k (rw (← v, ← q) (point_out made w.state.pointers.zp0 at _ _ e t p))))

    pub miap_moved : {place : Vector} {odd : Bool} {own cut : ℤ} {d : Tracked} {distance : ℤ} {m : Move} {b : BothMoved} → g ≡ Ok place → own ≡ from_origin w.state.vectors place
        → odd ≡ is_odd opcode → cut ≡ w.state.measures.cut_in
        → d ≡ miap_distance odd w.state.facts.native_clear_type_x w.state.round cut control own
        → distance ≡ d.word → m ≡ move_of made.state.vectors made.state.facts distance
        → b ≡ apply_in m at made.gx made.gy made.gflags made.tx made.ty made.tflags w.state.pointers.zp0
        → r ≡ after_move made (λ (v : World). done_in (on_both at (rounded_in d.wrapped v))) b → r ≡ miap_of f opcode operands w
    unfolding miap_of
    miap_moved t o u x d y m b p =
        two_there w operands _ h
        (rw (← i, ← j)
        (control_there w f entry _ k
        (rw (← v, ← q)
        (point_there made w.state.pointers.zp0 at _ _ e t
        (rw (← o, ← u, ← x) (rounded_by made w.state.pointers.zp0 at _ d y m b p))))))
