-- How a run goes on, over plain values: at the sheet's end, with the budget used, after a line that is done, and after one that is refused. And that
-- worlds of the same lengths are alike together. Assumes nothing.
use Rattle.std.specs.Prelude.{⊤, Result, Ok, Err}
use mathlib.Core.Bool.{true}
use mathlib.Core.List.{List}
use Prim.Native.Nat.{◌+◌, ◌-◌, ◌<◌, ◌≤◌, suc, zero, ℕ}
use mathlib.Core.Path.{◌∙◌, ◌≡◌, ap, refl, subst, sym}
use native.Mathlib.Numerals.{add-one}
use native.Mathlib.Omega.{arith}
use borrow.Author.Tests.{le-ltb, lt-ltb}
use lib.ListN.{length}
use lib.IntN.{ℤ}
use Rattle.contour_ends.specs.Ends.{ends_rise}
use Rattle.line.specs.World.{Alike, Fixed, Sound, World}
use Rattle.run_lines.specs.declared.Answer.TheVariants.{Finished, OutOfBudget, Refused}
use Rattle.answer.specs.declared.Refusal.{Refusal}
use Rattle.run_step.specs.Step.{Went, step_of}
use Rattle.run_lines.specs.Onward.{ends, on_call, on_went, replay_of}

pub at_end : (f : Fixed) (sheet : List ℤ) (b n at : ℕ) (w : World) → length sheet ≤ at → ends Finished n at w ≡ replay_of f sheet b n at w
unfolding replay_of
at_end f sheet zero n at w h = rw (le-ltb at (length sheet) h)
at_end f sheet (suc b) n at w h = rw (le-ltb at (length sheet) h)

used_zero : (f : Fixed) (sheet : List ℤ) (n at : ℕ) (w : World) → at < length sheet → ends OutOfBudget n at w ≡ replay_of f sheet 0 n at w
unfolding replay_of
used_zero f sheet n at w h = rw (lt-ltb at (length sheet) h)

pub used : (f : Fixed) (sheet : List ℤ) (b n at : ℕ) (w : World) → b ≡ 0 → at < length sheet → ends OutOfBudget n at w ≡ replay_of f sheet b n at w
used f sheet b n at w e h = rw e (used_zero f sheet n at w h)

turn_suc : (f : Fixed) (sheet : List ℤ) (b n at : ℕ) (w : World) → at < length sheet
    → on_went (replay_of f sheet b (suc n)) n (step_of f sheet at w) ≡ replay_of f sheet (suc b) n at w
unfolding replay_of
turn_suc f sheet b n at w h = rw (lt-ltb at (length sheet) h)

turn : (f : Fixed) (sheet : List ℤ) (b n at : ℕ) (w : World) → at < length sheet → (b ≡ 0 → ⊥)
    → on_went (replay_of f sheet (b - 1) (n + 1)) n (step_of f sheet at w) ≡ replay_of f sheet b n at w
turn f sheet zero n at w h z = absurd (z refl)
turn f sheet (suc b) n at w h z =
    let e : suc b - 1 ≡ b = omega arith in
    rw (e, add-one n) (turn_suc f sheet b n at w h)

module _ (f : Fixed) (sheet : List ℤ) (b n at : ℕ) (w : World) (g : Went) (eg : g ≡ step_of f sheet at w) (h : at < length sheet) (z : b ≡ 0 → ⊥) where
  by_call : {call : Result ⊤ Refusal} → g.call ≡ call → on_call (replay_of f sheet (b - 1) (n + 1)) n g.place g.world call ≡ replay_of f sheet b n at w
  by_call e =
      ap (on_call (replay_of f sheet (b - 1) (n + 1)) n g.place g.world) (sym e)
      ∙ ap (on_went (replay_of f sheet (b - 1) (n + 1)) n) eg
      ∙ turn f sheet b n at w h z

  pub goes_on : g.call ≡ Ok tt → replay_of f sheet (b - 1) (n + 1) g.place g.world ≡ replay_of f sheet b n at w
  unfolding on_call
  goes_on e = by_call e

  pub stops : {why : Refusal} → g.call ≡ Err why → ends (Refused why) n g.place g.world ≡ replay_of f sheet b n at w
  unfolding on_call
  stops e = by_call e

-- ---- lengths
-- how long each list that a run may change is
pub record Sizes : Type 0 where
  pub gx : ℕ
  pub gy : ℕ
  pub gflags : ℕ
  pub tox : ℕ
  pub toy : ℕ
  pub tx : ℕ
  pub ty : ℕ
  pub tflags : ℕ

abbrev pub mk_sizes : ℕ → ℕ → ℕ → ℕ → ℕ → ℕ → ℕ → ℕ → Sizes
mk_sizes gx gy gflags tox toy tx ty tflags = record { gx = gx; gy = gy; gflags = gflags; tox = tox; toy = toy; tx = tx; ty = ty; tflags = tflags }

abbrev pub sizes : World → Sizes
sizes w = mk_sizes (length w.gx) (length w.gy) (length w.gflags) (length w.tox) (length w.toy) (length w.tx) (length w.ty) (length w.tflags)

pub same_sizes : {a0 a1 a2 a3 a4 a5 a6 a7 b0 b1 b2 b3 b4 b5 b6 b7 : ℕ} → a0 ≡ b0 → a1 ≡ b1 → a2 ≡ b2 → a3 ≡ b3 → a4 ≡ b4 → a5 ≡ b5 → a6 ≡ b6 → a7 ≡ b7
    → mk_sizes a0 a1 a2 a3 a4 a5 a6 a7 ≡ mk_sizes b0 b1 b2 b3 b4 b5 b6 b7
same_sizes p0 p1 p2 p3 p4 p5 p6 p7 = λ i. mk_sizes (p0 i) (p1 i) (p2 i) (p3 i) (p4 i) (p5 i) (p6 i) (p7 i)

abbrev AlikeAt : Fixed → Sizes → Type 0
AlikeAt f z =
    (length f.gux ≡ z.gx)
    × (length f.guy ≡ z.gx)
    × (length f.gox ≡ z.gx)
    × (length f.goy ≡ z.gx)
    × (z.gy ≡ z.gx)
    × (z.gflags ≡ z.gx)
    × (z.toy ≡ z.tox)
    × (z.ty ≡ z.tx)
    × (z.tflags ≡ z.tx)
    × (z.tox ≡ z.tx)

-- worlds of the same lengths are alike or not together
pub still_alike : (f : Fixed) (v w : World) → sizes w ≡ sizes v → Alike f v → Alike f w
still_alike f v w e h = subst (AlikeAt f) (sym e) h

pub still_sound : (f : Fixed) (v w : World) → sizes w ≡ sizes v → Sound f v → Sound f w
still_sound f v w e h = (still_alike f v w e h.0, subst (λ (z : Sizes). ends_rise z.gx f.contours ≡ true) (sym e) h.1)
