-- What each step says where it goes on and where it doesn't: one law for each, whatever the rest of the line is. A line's proof is a chain of them, in
-- the order of its steps. Assumes nothing.
use Rattle.std.specs.Prelude.{⊤, Result, Ok, Err}
use Prim.Native.Nat.{ℕ, ◌≤◌, ◌<◌}
use mathlib.Core.Bool.{Bool, cond, true, false}
use mathlib.Core.List.{List, [], ◌∷◌}
use mathlib.Core.Path.{◌≡◌, sym, ap, ◌∙◌}
use native.Mathlib.Omega.{arith}
use borrow.Author.Tests.{le-ltb, lt-ltb}
use lib.Dec.{ltb}
use lib.IntN.{ℤ, pos}
use lib.ListN.{drop, get_or, length}
use Rattle.answer.specs.declared.Refusal.TheVariants.{ControlValue, Missing}
use Rattle.answer.specs.declared.Refusal.{Refusal}
use Rattle.graphics.specs.declared.GraphicsState.{GraphicsState}
use Rattle.graphics.specs.declared.Vector.{Vector}
use Rattle.graphics.specs.declared.ZonePointer.TheVariants.{Twilight}
use Rattle.graphics.specs.declared.ZonePointer.{ZonePointer}
use Rattle.line.specs.Line.{refused_with}
use Rattle.line.specs.declared.Stepped.{Stepped}
use Rattle.moves.specs.Apply.{BothMoved, apply_in}
use Rattle.moves.specs.Displacement.{displaced_in, reference_of}
use Rattle.moves.specs.Move.{move_of}
use Rattle.moves.specs.declared.Displacement.{Displacement}
use Rattle.moves.specs.declared.Move.{Move}
use Rattle.moves.specs.declared.Reference.{Reference}
use Rattle.line.specs.Places.{Pair, pair, put_at}
use Rattle.line.specs.Places.{fetch_in}
use Rattle.line.specs.World.{Fixed, Lined, World, lined, world}
use Rattle.line_steps.specs.Steps.{after_move, by_displaced, by_fetched, control_at, reference_in, reference_moved, done_in, first, five, laid_in, made_in, move_in, one, passed_over, point_or, refused_in, rounded_in, rounded_move_in, two}
use Rattle.round.specs.declared.Tracked.{Tracked}

-- ---- operands
module _ (w : World) {r : Lined} where
  pub one_missing : (operands : List ℤ) (rest : ℤ → Lined) → length operands < 1 → r ≡ refused_in w Missing → r ≡ one operands w rest
  unfolding one
  one_missing [] rest h e = e
  one_missing (a ∷ more) rest h e = absurd (omega arith)

  pub one_there : (operands : List ℤ) (rest : ℤ → Lined) → 1 ≤ length operands → r ≡ rest (get_or operands 0 (pos 0)) → r ≡ one operands w rest
  unfolding one
  one_there [] rest h e = absurd (omega arith)
  one_there (a ∷ more) rest h e = e

  pub two_missing : (operands : List ℤ) (rest : ℤ → ℤ → Lined) → length operands < 2 → r ≡ refused_in w Missing → r ≡ two operands w rest
  unfolding two
  two_missing [] rest h e = e
  two_missing (a ∷ []) rest h e = e
  two_missing (a ∷ b ∷ more) rest h e = absurd (omega arith)

  pub two_there : (operands : List ℤ) (rest : ℤ → ℤ → Lined) → 2 ≤ length operands → r ≡ rest (get_or operands 0 (pos 0)) (get_or operands 1 (pos 0)) → r ≡ two operands w rest
  unfolding two
  two_there [] rest h e = absurd (omega arith)
  two_there (a ∷ []) rest h e = absurd (omega arith)
  two_there (a ∷ b ∷ more) rest h e = e

  pub five_missing : (operands : List ℤ) (rest : ℤ → ℤ → ℤ → ℤ → ℤ → Lined) → length operands < 5 → r ≡ refused_in w Missing → r ≡ five operands w rest
  unfolding five
  five_missing [] rest h e = e
  five_missing (a ∷ []) rest h e = e
  five_missing (a ∷ b ∷ []) rest h e = e
  five_missing (a ∷ b ∷ c ∷ []) rest h e = e
  five_missing (a ∷ b ∷ c ∷ d ∷ []) rest h e = e
  five_missing (a ∷ b ∷ c ∷ d ∷ z ∷ more) rest h e = absurd (omega arith)

  pub five_there : (operands : List ℤ) (rest : ℤ → ℤ → ℤ → ℤ → ℤ → Lined) → 5 ≤ length operands
      → r ≡ rest (get_or operands 0 (pos 0)) (get_or operands 1 (pos 0)) (get_or operands 2 (pos 0)) (get_or operands 3 (pos 0)) (get_or operands 4 (pos 0))
      → r ≡ five operands w rest
  unfolding five
  five_there [] rest h e = absurd (omega arith)
  five_there (a ∷ []) rest h e = absurd (omega arith)
  five_there (a ∷ b ∷ []) rest h e = absurd (omega arith)
  five_there (a ∷ b ∷ c ∷ []) rest h e = absurd (omega arith)
  five_there (a ∷ b ∷ c ∷ d ∷ []) rest h e = absurd (omega arith)
  five_there (a ∷ b ∷ c ∷ d ∷ z ∷ more) rest h e = e

  pub first_missing : (operands : List ℤ) (rest : ℤ → List ℤ → Lined) → length operands < 1 → r ≡ refused_in w Missing → r ≡ first operands w rest
  unfolding first
  first_missing [] rest h e = e
  first_missing (a ∷ more) rest h e = absurd (omega arith)

  pub first_there : (operands : List ℤ) (rest : ℤ → List ℤ → Lined) → 1 ≤ length operands → r ≡ rest (get_or operands 0 (pos 0)) (drop 1 operands) → r ≡ first operands w rest
  unfolding first
  first_there [] rest h e = absurd (omega arith)
  first_there (a ∷ more) rest h e = e

  -- ---- what pedantry decides
  pub passed_pedantic : (why : Refusal) → w.state.facts.pedantic ≡ true → r ≡ refused_in w why → r ≡ passed_over w why
  unfolding passed_over
  passed_pedantic why e q = q ∙ sym (ap (λ (b : Bool). cond b (refused_in w why) (done_in w)) e)

  pub passed_lenient : (why : Refusal) → w.state.facts.pedantic ≡ false → r ≡ done_in w → r ≡ passed_over w why
  unfolding passed_over
  passed_lenient why e q = q ∙ sym (ap (λ (b : Bool). cond b (refused_in w why) (done_in w)) e)

  -- ---- control values
  pub no_control : (f : Fixed) (entry : ℕ) (rest : ℤ → Lined) → length f.controls ≤ entry → r ≡ refused_in w (ControlValue entry) → r ≡ control_at f entry w rest
  unfolding control_at
  no_control f entry rest h e = rw (le-ltb entry (length f.controls) h) e

  pub control_there : (f : Fixed) (entry : ℕ) (rest : ℤ → Lined) → entry < length f.controls → r ≡ rest (get_or f.controls entry (pos 0)) → r ≡ control_at f entry w rest
  unfolding control_at
  control_there f entry rest h e = rw (lt-ltb entry (length f.controls) h) e

  -- ---- points
  pub point_out : (zone : ZonePointer) (at : ℕ) (out : Refusal → Lined) (rest : Vector → Lined) {g : Result Vector Refusal} {why : Refusal}
      → g ≡ fetch_in at w.gx w.gy w.tx w.ty zone → g ≡ Err why → r ≡ out why → r ≡ point_or zone at w out rest
  unfolding point_or
  point_out zone at out rest e h q = q ∙ ap (by_fetched out rest) (sym h ∙ e)

  pub point_there : (zone : ZonePointer) (at : ℕ) (out : Refusal → Lined) (rest : Vector → Lined) {g : Result Vector Refusal} {place : Vector}
      → g ≡ fetch_in at w.gx w.gy w.tx w.ty zone → g ≡ Ok place → r ≡ rest place → r ≡ point_or zone at w out rest
  unfolding point_or
  point_there zone at out rest e h q = q ∙ ap (by_fetched out rest) (sym h ∙ e)

  -- ---- moves
  pub laid_there : (zone : ZonePointer) (m : Move) (at : ℕ) (rest : World → Lined) {n : Move} {b : BothMoved}
      → n ≡ m → b ≡ apply_in n at w.gx w.gy w.gflags w.tx w.ty w.tflags zone
      → r ≡ after_move w rest b → r ≡ laid_in zone m at w rest
  unfolding laid_in
  laid_there zone m at rest q e f =
      f ∙ ap (after_move w rest) (e ∙ ap (λ (n : Move). apply_in n at w.gx w.gy w.gflags w.tx w.ty w.tflags zone) q)

  pub moved_there : (zone : ZonePointer) (distance : ℤ) (at : ℕ) (rest : World → Lined) {m : Move} {b : BothMoved}
      → m ≡ move_of w.state.vectors w.state.facts distance
      → b ≡ apply_in m at w.gx w.gy w.gflags w.tx w.ty w.tflags zone
      → r ≡ after_move w rest b → r ≡ move_in zone distance at w rest
  unfolding move_in
  moved_there zone distance at rest = laid_there zone (move_of w.state.vectors w.state.facts distance) at rest

  rounded_there : (zone : ZonePointer) (d : Tracked) (at : ℕ) (rest : World → Lined) {distance : ℤ} {m : Move} {b : BothMoved}
      → distance ≡ d.word → m ≡ move_of w.state.vectors w.state.facts distance
      → b ≡ apply_in m at w.gx w.gy w.gflags w.tx w.ty w.tflags zone
      → r ≡ after_move w (λ (v : World). rest (rounded_in d.wrapped v)) b → r ≡ rounded_move_in zone d at w rest
  unfolding rounded_move_in
  rounded_there zone d at rest e m = moved_there zone d.word at (λ (v : World). rest (rounded_in d.wrapped v)) (m ∙ ap (move_of w.state.vectors w.state.facts) e)

  pub rounded_by : (zone : ZonePointer) (at : ℕ) (rest : World → Lined) {d d' : Tracked} {distance : ℤ} {m : Move} {b : BothMoved}
      → d ≡ d' → distance ≡ d.word → m ≡ move_of w.state.vectors w.state.facts distance
      → b ≡ apply_in m at w.gx w.gy w.gflags w.tx w.ty w.tflags zone
      → r ≡ after_move w (λ (v : World). rest (rounded_in d.wrapped v)) b → r ≡ rounded_move_in zone d' at w rest
  rounded_by zone at rest {d = d} e x m b p = rounded_there zone d at rest x m b p ∙ ap (λ (t : Tracked). rounded_move_in zone t at w rest) e

  -- ---- the reference point
  pub reference_out : (f : Fixed) (opcode : ℕ) (rest : Displacement → Lined) {d : Result Displacement Refusal} {why : Refusal}
      → d ≡ reference_moved f opcode w → d ≡ Err why → r ≡ refused_in w why → r ≡ reference_in f opcode w rest
  unfolding reference_in
  reference_out f opcode rest e h q = q ∙ ap (by_displaced w rest) (sym h ∙ e)

  pub reference_there : (f : Fixed) (opcode : ℕ) (rest : Displacement → Lined) {d : Result Displacement Refusal} {by : Displacement}
      → d ≡ reference_moved f opcode w → d ≡ Ok by → r ≡ rest by → r ≡ reference_in f opcode w rest
  unfolding reference_in
  reference_there f opcode rest e h q = q ∙ ap (by_displaced w rest) (sym h ∙ e)

-- how far it was moved, by whatever reads it
pub reference_is : (w : World) (f : Fixed) (opcode : ℕ) {p : Reference} {d : Result Displacement Refusal} → p ≡ reference_of w.state opcode
    → d ≡ displaced_in w.state.vectors p f.gox f.goy w.gx w.gy w.tox w.toy w.tx w.ty p.zone → d ≡ reference_moved f opcode w
reference_is w f opcode e q =
    q ∙ ap (λ (p : Reference). displaced_in w.state.vectors p f.gox f.goy w.gx w.gy w.tox w.toy w.tx w.ty p.zone) e

-- ---- a twilight point made
pub made_twilight : (w : World) (at : ℕ) {zone : ZonePointer} {place made : Vector} {tox toy tx ty : List ℤ} → place ≡ made
    → pair tox toy ≡ put_at place at w.tox w.toy → pair tx ty ≡ put_at place at w.tx w.ty → zone ≡ Twilight
    → world w.state w.gx w.gy w.gflags tox toy tx ty w.tflags ≡ made_in at made w zone
unfolding made_in
made_twilight w at {place = place} {tox = tox} {toy = toy} q o p z =
    ap (λ (t : Pair). world w.state w.gx w.gy w.gflags tox toy t.xs t.ys w.tflags) p
    ∙ ap (λ (t : Pair). world w.state w.gx w.gy w.gflags t.xs t.ys (put_at place at w.tx w.ty).xs (put_at place at w.tx w.ty).ys w.tflags) o
    ∙ ap (λ (v : Vector). made_in at v w Twilight) q
    ∙ ap (made_in at _ w) (sym z)

-- ---- the state that a line hands back, put together by its words
pub in_words : {call : Result ⊤ Refusal} {s t : GraphicsState} {gx gy : List ℤ} {gflags : List ℕ} {tox toy tx ty : List ℤ} {tflags : List ℕ} {r : Lined} → t ≡ s
    → lined (record { call = call; state = s }) gx gy gflags tox toy tx ty tflags ≡ r → lined (record { call = call; state = t }) gx gy gflags tox toy tx ty tflags ≡ r
in_words e p = rw e p
