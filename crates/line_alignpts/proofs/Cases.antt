-- ALIGNPTS in each of its cases, over a plain world: the laws of its steps, in their order. Assumes nothing.
use Rattle.std.specs.Prelude.{Result, Ok, Err}
use Prim.Native.Nat.{ℕ, ◌≤◌, ◌<◌}
use mathlib.Core.List.{List}
use mathlib.Core.Path.{◌≡◌, ap, refl, sym, ◌∙◌}
use lib.IntN.{ℤ, pos}
use lib.ListN.{length}
use Rattle.answer.specs.declared.Refusal.TheVariants.{Missing}
use Rattle.answer.specs.declared.Refusal.{Refusal}
use Rattle.graphics.specs.declared.Vector.{Vector}
use Rattle.graphics.specs.declared.Vectors.{Vectors}
use Rattle.graphics.specs.declared.ZonePointer.{ZonePointer}
use Rattle.int.specs.Word.{neg32, quot32}
use Rattle.line.specs.Operands.{index_at}
use Rattle.line.specs.Places.{fetch_in}
use Rattle.line.specs.World.{Fixed, Lined, World}
use Rattle.line_steps.proofs.Bridge.{done_or_not}
use Rattle.line_steps.proofs.Laws.{moved_there, two_missing, two_there}
use Rattle.line_steps.specs.Steps.{by_call, by_fetched, done_in, move_in, point_or, refused_in, with_points}
use Rattle.moves.specs.Apply.{BothMoved, apply_in}
use Rattle.moves.specs.Move.{move_of}
use Rattle.moves.specs.declared.Move.{Move}
use Rattle.projection.specs.Projection.{project_of}
use Rattle.line_alignpts.specs.Alignpts.{alignpts_of, both_moved_by, half_of}
use Rattle.line_alignpts.specs.Steps.{half_apart}

-- ---- the distance
module _ (v : Vectors) {g : Result Vector Refusal} (h : Result Vector Refusal) where
  pub first_out : {why : Refusal} → g ≡ Err why → Err why ≡ half_apart v g h
  unfolding half_apart
  first_out e = sym (ap (λ (g : Result Vector Refusal). half_apart v g h) e)

  pub second_out : {there : Vector} {why : Refusal} → g ≡ Ok there → h ≡ Err why → Err why ≡ half_apart v g h
  unfolding half_apart
  second_out {there = there} e q = sym (ap (λ (g : Result Vector Refusal). half_apart v g h) e ∙ ap (half_apart v (Ok there)) q)

  pub both_found : {there here : Vector} {half apart : ℤ} → g ≡ Ok there → h ≡ Ok here → apart ≡ project_of v there here → half ≡ quot32 apart (pos 2) → Ok half ≡ half_apart v g h
  unfolding half_apart
  both_found {there = there} e q o p =
      ap Ok (p ∙ ap (λ (d : ℤ). quot32 d (pos 2)) o) ∙ sym (ap (λ (g : Result Vector Refusal). half_apart v g h) e ∙ ap (half_apart v (Ok there)) q)

-- ---- the two moves
abbrev back : ℤ → ℕ → ZonePointer → World → Lined
back half first zone moved = move_in zone (neg32 half) first moved done_in

module _ (half : ℤ) (first second : ℕ) (w : World) {d : ℤ} (i : d ≡ half) {m : Move} (p : m ≡ move_of w.state.vectors w.state.facts d) {b : BothMoved} (e : b ≡ apply_in m second w.gx w.gy w.gflags w.tx w.ty w.tflags w.state.pointers.zp1) where
  there_moved : {r : Lined} → r ≡ by_call (with_points w b) (back half first w.state.pointers.zp0) b.call → r ≡ both_moved_by half first second w
  unfolding both_moved_by
  there_moved q = moved_there w w.state.pointers.zp1 half second (back half first w.state.pointers.zp0) (p ∙ ap (move_of w.state.vectors w.state.facts) i) e q

  pub there_refused : {why : Refusal} → b.call ≡ Err why → record { call = Err why; world = with_points w b } ≡ both_moved_by half first second w
  there_refused q = there_moved (sym (ap (by_call (with_points w b) (back half first w.state.pointers.zp0)) q))

  pub both_moved : {n : Move} {c : BothMoved} {z : ℤ} → b.call ≡ Ok tt → z ≡ neg32 d → n ≡ move_of w.state.vectors w.state.facts z
      → c ≡ apply_in n first b.gx b.gy b.gflags b.tx b.ty b.tflags w.state.pointers.zp0
      → record { call = c.call; world = with_points w c } ≡ both_moved_by half first second w
  both_moved {c = c} q k j f =
      there_moved
      (moved_there (with_points w b) w.state.pointers.zp0 (neg32 half) first done_in (j ∙ ap (move_of w.state.vectors w.state.facts) (k ∙ ap neg32 i)) f (sym (done_or_not (with_points w c) c.call))
      ∙ sym (ap (by_call (with_points w b) (back half first w.state.pointers.zp0)) q))

-- ---- the line
abbrev by_measured : World → (ℤ → Lined) → Result ℤ Refusal → Lined
by_measured w rest (Ok d) = rest d
by_measured w rest (Err why) = refused_in w why

by_places : (w : World) (v : Vectors) (rest : ℤ → Lined) (g h : Result Vector Refusal)
    → by_measured w rest (half_apart v g h) ≡ by_fetched (refused_in w) (λ there. by_fetched (refused_in w) (λ here. rest (half_of v there here)) h) g
unfolding half_apart
by_places w v rest (Err why) h = refl
by_places w v rest (Ok there) (Err why) = refl
by_places w v rest (Ok there) (Ok here) = refl

module _ (f : Fixed) (opcode : ℕ) (operands : List ℤ) (w : World) where
  pub alignpts_missing : {r : Lined} → length operands < 2 → r ≡ refused_in w Missing → r ≡ alignpts_of f opcode operands w
  unfolding alignpts_of
  alignpts_missing h e = two_missing w operands _ h e

  module _ {first second : ℕ} {g k : Result Vector Refusal} {m : Result ℤ Refusal} (h : 2 ≤ length operands) (i : first ≡ index_at operands 0) (j : second ≡ index_at operands 1)
      (p : g ≡ fetch_in first w.gx w.gy w.tx w.ty w.state.pointers.zp0) (q : k ≡ fetch_in second w.gx w.gy w.tx w.ty w.state.pointers.zp1)
      (e : m ≡ half_apart w.state.vectors g k) where
    by_half : {r : Lined} → r ≡ by_measured w (λ (half : ℤ). both_moved_by half first second w) m → r ≡ alignpts_of f opcode operands w
    unfolding alignpts_of point_or
    by_half o =
        two_there w operands _ h
        (rw (← i, ← j, ← p, ← q)
        (o ∙ ap (by_measured w (λ (half : ℤ). both_moved_by half first second w)) e ∙ by_places w w.state.vectors (λ (half : ℤ). both_moved_by half first second w) g k))

    pub alignpts_out : {r : Lined} {why : Refusal} → m ≡ Err why → r ≡ refused_in w why → r ≡ alignpts_of f opcode operands w
    alignpts_out o l = by_half (l ∙ sym (ap (by_measured w (λ (half : ℤ). both_moved_by half first second w)) o))

    pub alignpts_moved : {r : Lined} {half d : ℤ} → m ≡ Ok half → d ≡ half → r ≡ both_moved_by d first second w → r ≡ alignpts_of f opcode operands w
    alignpts_moved o n l =
        by_half (l ∙ ap (λ (half : ℤ). both_moved_by half first second w) n ∙ sym (ap (by_measured w (λ (half : ℤ). both_moved_by half first second w)) o))
