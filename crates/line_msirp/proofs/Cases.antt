-- MSIRP in each of its cases, over a plain world: the laws of its steps, in their order. Assumes nothing.
use Rattle.std.specs.Prelude.{⊤, Result, Ok, Err}
use Prim.Native.Nat.{ℕ, ◌≤◌, ◌<◌}
use mathlib.Core.Bool.{Bool, cond, false}
use mathlib.Core.List.{List}
use mathlib.Core.Path.{◌≡◌, ap, refl, ◌∙◌}
use lib.IntN.{ℤ, pos}
use lib.ListN.{get_or, length}
use Rattle.answer.specs.declared.Refusal.TheVariants.{Missing}
use Rattle.answer.specs.declared.Refusal.{Refusal}
use Rattle.graphics.specs.State.{with_rounding}
use Rattle.graphics.specs.declared.Vector.{Vector}
use Rattle.graphics.specs.declared.Vectors.{Vectors}
use Rattle.int.specs.Word.{add32, sub32}
use Rattle.line_relative.proofs.Both.{both_made, looked_up, place_on, reach_in}
use Rattle.line_relative.specs.Relative.{related}
use Rattle.line_steps.proofs.Laws.{moved_there, two_missing, two_there}
use Rattle.line_steps.specs.Steps.{after_move, done_in, made_in, passed_over, refused_in, rounded_in}
use Rattle.moves.specs.Apply.{BothMoved, apply_in}
use Rattle.moves.specs.Move.{move_of, original_move_of}
use Rattle.moves.specs.declared.Move.{Move}
use Rattle.line.specs.Places.{place_in}
use Rattle.line.specs.Operands.{index_at, is_odd}
use Rattle.projection.specs.Projection.{project_of}
use Rattle.line.specs.World.{Fixed, Lined, World}
use Rattle.zone.specs.Zone.{place_of}
use Rattle.line_msirp.specs.Msirp.{made_from, made_place, msirp_of}

-- ---- the twilight point
abbrev placed : ℤ → ℤ → Vector
placed x y = record { x = x; y = y }

pub made_from_lem : (v : Vectors) (distance : ℤ) (p : Vector) {d px py dx dy x y x' y' : ℤ} {m : Move} → d ≡ distance → m ≡ original_move_of v d
    → px ≡ p.x → dx ≡ m.dx → x ≡ cond m.moves_x (add32 px dx) px → x' ≡ x
    → py ≡ p.y → dy ≡ m.dy → y ≡ cond m.moves_y (add32 py dy) py → y' ≡ y
    → placed x' y' ≡ made_place v distance p
unfolding made_place
made_from_lem v distance p ed em epx edx ex ex' epy edy ey ey' = rw (ex', ex, ey', ey, epx, epy, edx, edy, em, ed) refl

-- ---- the distance
pub distance_from : {distance d p p' along r r' : ℤ} → d ≡ distance → p' ≡ p → p ≡ along → r' ≡ r → r ≡ sub32 d p' → r' ≡ sub32 distance along
distance_from {distance = distance} {p' = p'} ed ep' ep er' er = er' ∙ er ∙ ap (λ (z : ℤ). sub32 z p') ed ∙ ap (sub32 distance) (ep' ∙ ep)

-- ---- the line
module _ (f : Fixed) (opcode : ℕ) (operands : List ℤ) (w : World) {r : Lined} where
  pub msirp_missing : length operands < 2 → r ≡ refused_in w Missing → r ≡ msirp_of f opcode operands w
  unfolding msirp_of
  msirp_missing h e = two_missing w operands _ h e

  -- ---- both operands are there
  module _ {distance : ℤ} {at : ℕ} {there : Result ⊤ Refusal} (h : 2 ≤ length operands) (d : distance ≡ get_or operands 0 (pos 0)) (j : at ≡ index_at operands 1) (e : there ≡ reach_in w at w.state.pointers.zp1) where
    pub msirp_passed : {why : Refusal} → there ≡ Err why → r ≡ passed_over w why → r ≡ msirp_of f opcode operands w
    unfolding msirp_of
    msirp_passed t p = two_there w operands _ h (rw (← d, ← j) (looked_up w (passed_over w) at _ w.state.pointers.zp1 e t p))

    pub msirp_moved : (made : World) {place reference : Vector} {by : ℤ} {odd : Bool} {m : Move} {b : BothMoved} → there ≡ Ok tt
        → made ≡ made_in at (made_place w.state.vectors distance (made_from f.rules (place_of w.tox w.toy at) (place_in w.state.references.rp0 f.gox f.goy w.tox w.toy w.state.pointers.zp0))) w w.state.pointers.zp1
        → place ≡ place_on made w.state.pointers.zp1 at
        → reference ≡ place_on made w.state.pointers.zp0 w.state.references.rp0
        → by ≡ sub32 distance (project_of w.state.vectors place reference) → m ≡ move_of made.state.vectors made.state.facts by
        → b ≡ apply_in m at made.gx made.gy made.gflags made.tx made.ty made.tflags w.state.pointers.zp1 → odd ≡ is_odd opcode
        → r ≡ after_move made (λ (v : World). done_in (related odd at (rounded_in false v))) b → r ≡ msirp_of f opcode operands w
    unfolding msirp_of with_rounding
    msirp_moved made t q o u l m b x p =
        let zp1 = w.state.pointers.zp1 in
        two_there w operands _ h
        (rw (← d, ← j)
        (looked_up w (passed_over w) at _ zp1 e t
        (rw (← q)
        (both_made w at zp1 _ _ _ e t q o u
        (rw (← x) (moved_there made zp1 _ at _ (m ∙ ap (move_of made.state.vectors made.state.facts) l) b p))))))
