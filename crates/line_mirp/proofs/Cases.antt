-- MIRP's numbers, and MIRP in each of its cases, over a plain world: the laws of its steps, in their order. Assumes nothing.
use Rattle.std.specs.Prelude.{⊤, Result, Ok, Err}
use Prim.Native.Nat.{ℕ, suc, zero, ◌-◌, ◌≤◌, ◌<◌}
use mathlib.Core.Bool.{Bool, beq, ◌&&◌, cond, false, true, true≢false}
use mathlib.Core.List.{List}
use mathlib.Core.Path.{◌≡◌, ap, ap₂, refl, sym, ◌∙◌}
use native.Mathlib.Omega.{arith}
use borrow.Author.Tests.{le-leb, lt-leb, ne_eqb}
use lib.Dec.{eqb, leb}
use lib.IntN.{ℤ, pos}
use lib.ListN.{get_or, length}
use Rattle.answer.specs.declared.Refusal.TheVariants.{ControlValue, Missing}
use Rattle.answer.specs.declared.Refusal.{Refusal}
use Rattle.graphics.specs.State.{is_twilight}
use Rattle.graphics.specs.declared.Measures.{Measures}
use Rattle.graphics.specs.declared.Vector.{Vector}
use Rattle.graphics.specs.declared.ZonePointer.TheVariants.{Glyph, Twilight}
use Rattle.graphics.specs.declared.ZonePointer.{ZonePointer}
use Rattle.int.specs.Word.{add32, index_of}
use Rattle.line.specs.Operands.{index_at}
use Rattle.line.specs.Places.{place_in}
use Rattle.line.specs.World.{Fixed, Lined, World}
use Rattle.line_distance.proofs.Seen.{near_by}
use Rattle.line_distance.specs.Distance.{chosen_of, cut_in_of, finished, flipped_of, rounds, sets_rp0, single_control}
use Rattle.line_distance.specs.Outline.{originals_apart}
use Rattle.line_relative.proofs.Both.{both_made, by_reach, looked_up, place_on, reach_in}
use Rattle.line_relative.specs.Relative.{both_there, related, related_or}
use Rattle.line_relative.specs.Steps.{reach_of}
use Rattle.line_steps.proofs.Laws.{rounded_by, two_missing, two_there}
use Rattle.line_steps.specs.Numbers.{step_from}
use Rattle.line_steps.specs.Steps.{after_move, done_in, made_in, point_in, refused_in, rounded_in, rounded_move_in}
use Rattle.math.specs.Fixed.{mul_fix}
use Rattle.moves.specs.Apply.{BothMoved, apply_in}
use Rattle.moves.specs.Move.{move_of}
use Rattle.moves.specs.declared.Move.{Move}
use Rattle.projection.specs.Projection.{project_of}
use Rattle.round.specs.declared.RoundState.{RoundState}
use Rattle.round.specs.declared.Tracked.{Tracked}
use Rattle.line_mirp.specs.Mirp.{control_by, mirp_distance, mirp_of, mirp_place, same_zone}
use Rattle.line_mirp.specs.Steps.{control_found, mirp_found}

-- ---- the control value
pub next_by : {z z' n n' : ℤ} {r : ℕ} (operand : ℤ) → z' ≡ z → z ≡ operand → n ≡ add32 z' (pos 1) → n' ≡ n → r ≡ index_of n' → r ≡ index_of (add32 operand (pos 1))
next_by operand ez' ez en en' er = er ∙ ap index_of (en' ∙ en ∙ ap (λ (z : ℤ). add32 z (pos 1)) (ez' ∙ ez))

module _ (controls : List ℤ) where
  pub control_zero : (next : ℕ) → next ≡ 0 → Ok (pos 0) ≡ control_found next controls
  unfolding control_found
  control_zero next e = rw e refl

  pub control_none : (next : ℕ) → (next ≡ 0 → ⊥) → length controls ≤ next - 1 → Err (ControlValue (next - 1)) ≡ control_found next controls
  unfolding control_found
  control_none zero h k = absurd (h refl)
  control_none (suc n) h k = rw (ne_eqb (suc n) 0 h, lt-leb (suc n) (length controls) (omega arith)) refl

  pub control_there : (next : ℕ) {z : ℤ} → (next ≡ 0 → ⊥) → next - 1 < length controls → z ≡ get_or controls (next - 1) (pos 0) → Ok z ≡ control_found next controls
  unfolding control_found
  control_there zero h k e = absurd (h refl)
  control_there (suc n) h k e = rw (ne_eqb (suc n) 0 h, le-leb (suc n) (length controls) (omega arith)) (ap Ok e)

-- ---- what is found, of a control value and two points that were looked at
module _ (m : Measures) {c control : Result ℤ Refusal} {t there : Result ⊤ Refusal} (ec : c ≡ control) (et : t ≡ there) where
  pub found_no_control : {why : Refusal} → c ≡ Err why → Err why ≡ mirp_found m control there
  found_no_control h = sym (ap (λ (c : Result ℤ Refusal). mirp_found m c there) (sym ec ∙ h))

  pub found_outside : {v : ℤ} {why : Refusal} → c ≡ Ok v → t ≡ Err why → Err why ≡ mirp_found m control there
  found_outside h k = sym (ap₂ (mirp_found m) (sym ec ∙ h) (sym et ∙ k))

  pub found_there : {v value cut width z z' : ℤ} → c ≡ Ok v → t ≡ Ok tt → value ≡ v → cut ≡ m.single_width_cut_in → width ≡ m.single_width → z ≡ single_control cut width value → z' ≡ z
      → Ok z' ≡ mirp_found m control there
  found_there {v} h k ev ek ew ez ez' =
      ap Ok (ez' ∙ ez ∙ ap (single_control _ _) ev ∙ ap₂ (λ (cut width : ℤ). single_control cut width v) ek ew)
      ∙ sym (ap₂ (mirp_found m) (sym ec ∙ h) (sym et ∙ k))

-- ---- the twilight point
abbrev placed : ℤ → ℤ → Vector
placed x y = record { x = x; y = y }

pub place_by : (freedom : Vector) (control : ℤ) (reference : Vector) {k fx fy px py rx ry sx sy ax ay bx by : ℤ} → k ≡ control
    → fx ≡ freedom.x → px ≡ mul_fix k fx → rx ≡ reference.x → sx ≡ px → ax ≡ add32 rx sx → bx ≡ ax
    → fy ≡ freedom.y → py ≡ mul_fix k fy → ry ≡ reference.y → sy ≡ py → ay ≡ add32 ry sy → by ≡ ay
    → placed bx by ≡ mirp_place freedom control reference
unfolding mirp_place
place_by freedom control reference ek efx epx erx esx eax ebx efy epy ery esy eay eby =
    ap₂ placed
    (ebx ∙ eax ∙ ap₂ add32 erx (esx ∙ epx ∙ ap₂ mul_fix ek efx))
    (eby ∙ eay ∙ ap₂ add32 ery (esy ∙ epy ∙ ap₂ mul_fix ek efy))

-- ---- the distance
pub same_by : (p q : ZonePointer) {a b : Bool} → a ≡ is_twilight p → b ≡ is_twilight q → beq a b ≡ same_zone p q
same_by Glyph Glyph ea eb = ap₂ beq ea eb
same_by Glyph Twilight ea eb = ap₂ beq ea eb
same_by Twilight Glyph ea eb = ap₂ beq ea eb
same_by Twilight Twilight ea eb = ap₂ beq ea eb

module _ (native : Bool) (cut_in control original : ℤ) {looks : Bool} {c' : ℤ} (ec : c' ≡ control) where
  pub near_chosen : {o' k k' n n' i : ℤ} → looks ≡ true → i ≡ cut_in → k ≡ cut_in_of native i → k' ≡ k → o' ≡ original → n ≡ chosen_of k' c' o' → n' ≡ n
      → n' ≡ cond looks (chosen_of (cut_in_of native cut_in) control original) control
  near_chosen h ei ek ek' eo en en' =
      en' ∙ near_by en (ek' ∙ ek ∙ ap (cut_in_of native) ei) ec eo
      ∙ sym (ap (λ (b : Bool). cond b (chosen_of (cut_in_of native cut_in) control original) control) h)

  pub near_left : looks ≡ false → c' ≡ cond looks (chosen_of (cut_in_of native cut_in) control original) control
  near_left h = ec ∙ sym (ap (λ (b : Bool). cond b (chosen_of (cut_in_of native cut_in) control original) control) h)

pub distance_by : (opcode : ℕ) (within native : Bool) (round : RoundState) (m : Measures) (control original : ℤ) {o' c' t t' n n' i least : ℤ} {b : Bool} {r : Tracked}
    → o' ≡ original → c' ≡ control → t ≡ flipped_of m.auto_flip o' c' → t' ≡ t → b ≡ rounds opcode → i ≡ m.cut_in
    → n ≡ cond (b && within) (chosen_of (cut_in_of native i) t' o') t' → n' ≡ n → least ≡ m.minimum_distance
    → r ≡ finished opcode native round least o' n' → r ≡ mirp_distance opcode within native round m control original
unfolding mirp_distance
distance_by opcode within native round m control original eo ec et et' eb ei en en' el er =
    rw (er, el, en', en, et', et, eb, ei, eo, ec) refl

-- ---- the control value and the points looked at
abbrev by_found : (Refusal → Lined) → (ℤ → Lined) → Result ℤ Refusal → Lined
by_found out rest (Ok z) = rest z
by_found out rest (Err why) = out why

abbrev is_distance : Result ℤ Refusal → Bool
is_distance (Ok _) = true
is_distance (Err _) = false

not_found : {why : Refusal} {z : ℤ} → Err why ≡ Ok z → ⊥
not_found e = true≢false (sym (ap is_distance e))

points_there : (m : Measures) (c : Result ℤ Refusal) (t : Result ⊤ Refusal) {z : ℤ} → mirp_found m c t ≡ Ok z → t ≡ Ok tt
points_there m (Err why) t e = absurd (not_found e)
points_there m (Ok v) (Ok tt) e = refl
points_there m (Ok v) (Err why) e = absurd (not_found e)

module _ (f : Fixed) (w : World) (out : Refusal → Lined) where
  tried : (rest : ℤ → Lined) (a b : Bool) (x y : ℤ) (why : Refusal)
      → by_found out rest (cond a (Ok x) (cond b (Ok y) (Err why))) ≡ cond a (rest x) (cond b (rest y) (out why))
  tried rest true b x y why = refl
  tried rest false true x y why = refl
  tried rest false false x y why = refl

  control_is : (next : ℕ) (rest : ℤ → Lined) → by_found out rest (control_found next f.controls) ≡ control_by f next out rest
  unfolding control_found control_by
  control_is next rest =
      tried rest (eqb next 0) (leb next (length f.controls)) (pos 0) (get_or f.controls (next - 1) (pos 0)) (ControlValue (next - 1))

  module _ (m : Measures) (at : ℕ) (zone : ZonePointer) (rest : ℤ → Lined) where
    abbrev single : ℤ → ℤ
    single v = single_control m.single_width_cut_in m.single_width v

    both_are : (c : Result ℤ Refusal) → by_found out rest (mirp_found m c (reach_in w at zone)) ≡ by_found out (λ (v : ℤ). both_there at w out (rest (single v)) zone) c
    both_are (Err why) = refl
    both_are (Ok v) = split (reach_in w at zone) ∙ looked_up w out at (rest (single v)) zone refl refl refl where
      split : (t : Result ⊤ Refusal) → by_found out rest (mirp_found m (Ok v) t) ≡ by_reach w out (rest (single v)) t
      split (Ok tt) = refl
      split (Err why) = refl

    found_by : (next : ℕ) {found said : Result ℤ Refusal} {r : Lined} → found ≡ mirp_found m (control_found next f.controls) (reach_in w at zone) → found ≡ said → r ≡ by_found out rest said
        → r ≡ control_by f next out (λ (v : ℤ). both_there at w out (rest (single v)) zone)
    found_by next e h p = p ∙ ap (by_found out rest) (sym h ∙ e) ∙ both_are (control_found next f.controls) ∙ control_is next _

-- ---- the line
module _ (f : Fixed) (w : World) (at : ℕ) where
  -- the world with a twilight point made
  abbrev made_from : ℤ → ZonePointer → ZonePointer → World
  made_from control zp0 zp1 =
      let s = w.state in
      made_in at (mirp_place s.vectors.freedom control (place_in s.references.rp0 f.gox f.goy w.tox w.toy zp0)) w zp1

  abbrev apart_in : World → ZonePointer → ZonePointer → ℤ
  apart_in made zp0 zp1 =
      let s = w.state in
      originals_apart s.vectors.dual zp1 at zp0 s.references.rp0 f.gox f.goy made.tox made.toy

  -- where the points are by then
  abbrev own_in : World → ZonePointer → ZonePointer → ℤ
  own_in made zp0 zp1 = project_of w.state.vectors (place_on made zp1 at) (place_on made zp0 w.state.references.rp0)

  -- what is left of the line by then
  abbrev brought : ℕ → Bool → World → ℤ → Lined
  brought opcode sets made control =
      let s = w.state in
      point_in s.pointers.zp1 at made λ place.
      point_in s.pointers.zp0 s.references.rp0 made λ reference.
      let distance = mirp_distance opcode (same_zone s.pointers.zp0 s.pointers.zp1) s.facts.native_clear_type_x s.round s.measures control (apart_in made s.pointers.zp0 s.pointers.zp1) in
      rounded_move_in s.pointers.zp1 (step_from (project_of s.vectors place reference) distance) at made λ moved.
      done_in (related sets at moved)

  -- and of the line once the control value was found
  abbrev made_and_brought : ℕ → Bool → ℤ → Lined
  made_and_brought opcode sets control = brought opcode sets (made_from control w.state.pointers.zp0 w.state.pointers.zp1) control

  -- what was found, by the zones that the pointers name
  abbrev found_in : ℕ → ZonePointer → ZonePointer → Result ℤ Refusal
  found_in next zp0 zp1 = mirp_found w.state.measures (control_found next f.controls) (reach_of at zp0 w.state.references.rp0 (length w.gx) (length w.tx) zp1)

module _ (f : Fixed) (opcode : ℕ) (operands : List ℤ) (w : World) {r : Lined} where
  pub mirp_missing : length operands < 2 → r ≡ refused_in w Missing → r ≡ mirp_of f opcode operands w
  unfolding mirp_of
  mirp_missing h e = two_missing w operands _ h e

  -- ---- both operands are there, and the control value and the points were looked at
  module _ {next at : ℕ} {zp0 zp1 : ZonePointer} {sets : Bool} {found : Result ℤ Refusal} (h : 2 ≤ length operands) (i : next ≡ index_of (add32 (get_or operands 0 (pos 0)) (pos 1))) (j : at ≡ index_at operands 1) (e0 : zp0 ≡ w.state.pointers.zp0) (e1 : zp1 ≡ w.state.pointers.zp1) (s : sets ≡ sets_rp0 opcode) (e : found ≡ found_in f w at next zp0 zp1) where
    by_found_lem : {said : Result ℤ Refusal} → found ≡ said → r ≡ by_found (related_or sets at w) (made_and_brought f w at opcode sets) said → r ≡ mirp_of f opcode operands w
    unfolding mirp_of
    by_found_lem t p =
        two_there w operands _ h
        (rw (← i, ← j, ← s)
        (found_by f w (related_or sets at w) w.state.measures at w.state.pointers.zp1 (made_and_brought f w at opcode sets) next (e ∙ ap₂ (found_in f w at next) e0 e1) t p))

    pub mirp_outside : {why : Refusal} → found ≡ Err why → r ≡ related_or sets at w why → r ≡ mirp_of f opcode operands w
    mirp_outside t p = by_found_lem t p

    pub mirp_moved : {z control : ℤ} (made : World) {own original distance : ℤ} {within : Bool} {d step : Tracked} {m : Move} {b : BothMoved} → found ≡ Ok z → control ≡ z → made ≡ made_from f w at control zp0 zp1
        → own ≡ own_in f w at made zp0 zp1
        → original ≡ apart_in f w at made zp0 zp1
        → within ≡ same_zone zp0 zp1
        → d ≡ mirp_distance opcode within w.state.facts.native_clear_type_x w.state.round w.state.measures control original
        → step ≡ step_from own d → distance ≡ step.word → m ≡ move_of made.state.vectors made.state.facts distance
        → b ≡ apply_in m at made.gx made.gy made.gflags made.tx made.ty made.tflags zp1
        → r ≡ after_move made (λ (v : World). done_in (related sets at (rounded_in step.wrapped v))) b → r ≡ mirp_of f opcode operands w
    mirp_moved {control = control} made {m = m'} t k q o a n d x c m b p =
        let g = w.state in
        let at-zp1 = g.pointers.zp1 in
        let there = points_there g.measures (control_found next f.controls) (reach_in w at at-zp1) (sym (e ∙ ap₂ (found_in f w at next) e0 e1) ∙ t) in
        let is_made = q ∙ ap₂ (made_from f w at control) e0 e1 in
        let own = o ∙ ap₂ (own_in f w at made) e0 e1 in
        let original = a ∙ ap₂ (apart_in f w at made) e0 e1 in
        let within = n ∙ ap₂ same_zone e0 e1 in
        let moved = b ∙ ap (apply_in m' at made.gx made.gy made.gflags made.tx made.ty made.tflags) e1 in
        let distance = d ∙ ap₂ (λ (within : Bool) (original : ℤ). mirp_distance opcode within g.facts.native_clear_type_x g.round g.measures control original) within original in
        by_found_lem t
        (both_made w at at-zp1 _ _ _ refl there is_made refl refl (rounded_by made at-zp1 at _ (x ∙ ap₂ step_from own distance) c m moved p)
        ∙ ap (λ (v : World). brought f w at opcode sets v control) is_made
        ∙ ap (made_and_brought f w at opcode sets) k)
