-- MDRP in each of its cases, over a plain world: the laws of its steps, in their order. Assumes nothing.
use Rattle.std.specs.Prelude.{⊤, Result, Ok, Err}
use Prim.Native.Nat.{ℕ, ◌≤◌, ◌<◌}
use mathlib.Core.Bool.{Bool}
use mathlib.Core.List.{List}
use mathlib.Core.Path.{◌≡◌, ap, ap₂, ◌∙◌}
use lib.IntN.{ℤ}
use lib.ListN.{length}
use Rattle.answer.specs.declared.Refusal.TheVariants.{Missing}
use Rattle.answer.specs.declared.Refusal.{Refusal}
use Rattle.graphics.specs.declared.Measures.{Measures}
use Rattle.graphics.specs.declared.Vector.{Vector}
use Rattle.graphics.specs.declared.ZonePointer.{ZonePointer}
use Rattle.line.specs.Operands.{index_at}
use Rattle.line.specs.World.{Fixed, Lined, World}
use Rattle.line_distance.specs.Distance.{finished, sets_rp0, single_outline}
use Rattle.line_distance.specs.Outline.{outline_of}
use Rattle.line_relative.proofs.Both.{both_looked_up, place_on, size_in}
use Rattle.line_relative.specs.Relative.{related, related_or}
use Rattle.line_relative.specs.Steps.{both_inside}
use Rattle.line_steps.proofs.Laws.{one_missing, one_there, rounded_by}
use Rattle.line_steps.specs.Numbers.{step_from}
use Rattle.line_steps.specs.Steps.{after_move, done_in, refused_in, rounded_in}
use Rattle.moves.specs.Apply.{BothMoved, apply_in}
use Rattle.moves.specs.Move.{move_of}
use Rattle.moves.specs.declared.Move.{Move}
use Rattle.projection.specs.Projection.{project_of}
use Rattle.round.specs.declared.RoundState.{RoundState}
use Rattle.round.specs.declared.Tracked.{Tracked}
use Rattle.line_mdrp.specs.Mdrp.{mdrp_distance, mdrp_of}

-- ---- the distance, of numbers as they are read back
pub distance_by : (opcode : ℕ) (native : Bool) (round : RoundState) (m : Measures) {cut width minimum outline outline' d d' : ℤ} {r : Tracked}
    → cut ≡ m.single_width_cut_in → width ≡ m.single_width → outline' ≡ outline → d ≡ single_outline cut width outline'
    → minimum ≡ m.minimum_distance → d' ≡ d → r ≡ finished opcode native round minimum d' d' → r ≡ mdrp_distance opcode native round m outline
unfolding mdrp_distance
distance_by opcode native round m {outline' = outline'} ec ew eo ed em ed' p =
    p
    ∙ ap₂ (λ (minimum d : ℤ). finished opcode native round minimum d d) em
    (ed' ∙ ed ∙ ap₂ (λ (cut width : ℤ). single_outline cut width outline') ec ew ∙ ap (single_outline m.single_width_cut_in m.single_width) eo)

-- ---- the two points looked at, by the sizes of their zones
looked : (w : World) (at : ℕ) {zp0 zp1 : ZonePointer} {firsts seconds : ℕ} {there : Result ⊤ Refusal} → zp0 ≡ w.state.pointers.zp0 → zp1 ≡ w.state.pointers.zp1
    → firsts ≡ size_in w zp1 → seconds ≡ size_in w zp0 → there ≡ both_inside at firsts w.state.references.rp0 seconds
    → there ≡ both_inside at (size_in w w.state.pointers.zp1) w.state.references.rp0 (size_in w w.state.pointers.zp0)
looked w at e0 e1 k l e = e ∙ ap₂ (λ (m n : ℕ). both_inside at m w.state.references.rp0 n) (k ∙ ap (size_in w) e1) (l ∙ ap (size_in w) e0)

-- ---- the line
module _ (f : Fixed) (opcode : ℕ) (operands : List ℤ) (w : World) {r : Lined} where
  pub mdrp_missing : length operands < 1 → r ≡ refused_in w Missing → r ≡ mdrp_of f opcode operands w
  unfolding mdrp_of
  mdrp_missing h e = one_missing w operands _ h e

  -- ---- the operand is there, and both points were looked at
  module _ {at firsts seconds : ℕ} {zp0 zp1 : ZonePointer} {sets : Bool} {there : Result ⊤ Refusal} (h : 1 ≤ length operands) (i : at ≡ index_at operands 0) (e0 : zp0 ≡ w.state.pointers.zp0) (e1 : zp1 ≡ w.state.pointers.zp1) (s : sets ≡ sets_rp0 opcode) (k : firsts ≡ size_in w zp1) (l : seconds ≡ size_in w zp0) (e : there ≡ both_inside at firsts w.state.references.rp0 seconds) where
    pub mdrp_outside : {why : Refusal} → there ≡ Err why → r ≡ related_or sets at w why → r ≡ mdrp_of f opcode operands w
    unfolding mdrp_of
    mdrp_outside t p =
        one_there w operands _ h
        (rw (← i, ← s) (both_looked_up w (related_or sets at w) w.state.pointers.zp1 at w.state.pointers.zp0 w.state.references.rp0 _ (looked w at e0 e1 k l e) t p))

    pub mdrp_moved : {scale outline own distance : ℤ} {d step : Tracked} {place reference : Vector} {m : Move} {b : BothMoved} → there ≡ Ok tt → scale ≡ w.state.measures.scale
        → outline ≡ outline_of w.state.vectors.dual scale zp1 at zp0 w.state.references.rp0 f.gux f.guy f.gox f.goy w.tox w.toy
        → d ≡ mdrp_distance opcode w.state.facts.native_clear_type_x w.state.round w.state.measures outline
        → place ≡ place_on w zp1 at → reference ≡ place_on w zp0 w.state.references.rp0
        → own ≡ project_of w.state.vectors place reference → step ≡ step_from own d
        → distance ≡ step.word → m ≡ move_of w.state.vectors w.state.facts distance
        → b ≡ apply_in m at w.gx w.gy w.gflags w.tx w.ty w.tflags zp1
        → r ≡ after_move w (λ (v : World). done_in (related sets at (rounded_in step.wrapped v))) b → r ≡ mdrp_of f opcode operands w
    unfolding mdrp_of
    mdrp_moved {m = m'} t z q d o u y x c m b p =
        let g = w.state in
        let rp0 = g.references.rp0 in
        let apart : ℤ → ZonePointer → ZonePointer → ℤ = λ scale first second. outline_of g.vectors.dual scale first at second rp0 f.gux f.guy f.gox f.goy w.tox w.toy in
        let along = y ∙ ap₂ (project_of g.vectors) (o ∙ ap (λ (zone : ZonePointer). place_on w zone at) e1) (u ∙ ap (λ (zone : ZonePointer). place_on w zone rp0) e0) in
        let outline = q ∙ ap (λ (scale : ℤ). apart scale zp1 zp0) z ∙ ap₂ (apart g.measures.scale) e1 e0 in
        let wanted = d ∙ ap (mdrp_distance opcode g.facts.native_clear_type_x g.round g.measures) outline in
        one_there w operands _ h
        (rw (← i, ← s)
        (both_looked_up w (related_or sets at w) g.pointers.zp1 at g.pointers.zp0 rp0 _ (looked w at e0 e1 k l e) t
        (rounded_by w g.pointers.zp1 at _ (x ∙ ap₂ step_from along wanted) c m (b ∙ ap (apply_in m' at w.gx w.gy w.gflags w.tx w.ty w.tflags) e1) p)))
