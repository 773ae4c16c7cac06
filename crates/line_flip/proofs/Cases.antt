-- What FLIPRGON and FLIPRGOFF come to in each of their cases, over plain lists: the functions' proofs cite these. Assumes nothing.
use Rattle.std.specs.Prelude.{Err}
use Prim.Native.Nat.{ℕ, ◌<◌, ◌≤◌, suc}
use mathlib.Core.Bool.{Bool, cond, false, true}
use mathlib.Core.List.{List}
use mathlib.Core.Logic.{⊎_elim}
use mathlib.Core.Path.{◌≡◌, ap, sym, ◌∙◌}
use native.Mathlib.Omega.{arith}
use borrow.Author.Tests.{eq-eqb, ne_eqb}
use lib.IntN.{ℤ}
use lib.ListN.{length}
use Rattle.answer.specs.declared.Refusal.TheVariants.{Missing, Range}
use Rattle.graphics.specs.State.{past_both_iups}
use Rattle.graphics.specs.declared.Facts.{Facts}
use Rattle.int.proofs.Ints.{split}
use Rattle.line_steps.proofs.Laws.{two_missing, two_there}
use Rattle.line_steps.specs.Steps.{done_in, flags_in, refused_in}
use Rattle.line.specs.Operands.{index_at, is_odd}
use Rattle.line.specs.World.{Fixed, Lined, World}
use Rattle.zone.proofs.Cases.{range_out, range_reversed}
use Rattle.zone.specs.Zone.{Marked, marked}
use Rattle.line_flip.specs.Flip.{fliprg_of, held_fast, last_index, set_through}

-- a high point outside, whichever way the range goes
pub through_out : (flags : List ℕ) (low high : ℕ) (on : Bool) → length flags ≤ high → marked (Err (Range low)) flags ≡ set_through flags low high on
through_out flags low high on h =
    ⊎_elim
    (λ reversed. range_reversed flags low (suc high) on reversed)
    (λ ordered. range_out flags low (suc high) on ordered (omega arith))
    (split (suc high) low)

-- ---- past both IUPs
pub up_to_last : (facts : Facts) (high : ℕ) → high ≡ last_index → false ≡ held_fast facts high
unfolding held_fast
up_to_last facts high e = rw (eq-eqb high last_index e)

pub before_last : (facts : Facts) (high : ℕ) → (high ≡ last_index → ⊥) → {over : Bool} → over ≡ past_both_iups facts → over ≡ held_fast facts high
unfolding held_fast
before_last facts high n e = rw (ne_eqb high last_index n) e

-- ---- the line
module _ (f : Fixed) (opcode : ℕ) (operands : List ℤ) (w : World) {r : Lined} where
  pub too_few : length operands < 2 → r ≡ refused_in w Missing → r ≡ fliprg_of f opcode operands w
  unfolding fliprg_of
  too_few h e = two_missing w operands _ h e

  -- held fast, nothing is set
  pub none_set : {high : ℕ} {fast : Bool} → 2 ≤ length operands → high ≡ index_at operands 0 → fast ≡ held_fast w.state.facts high → fast ≡ true
      → r ≡ done_in w → r ≡ fliprg_of f opcode operands w
  unfolding fliprg_of
  none_set h a b p e = two_there w operands _ h (rw (sym a, sym b, p) e)

  -- else what is left of the flags is what the range leaves
  pub range_set : {high low : ℕ} {fast on : Bool} {m : Marked} → 2 ≤ length operands → high ≡ index_at operands 0 → fast ≡ held_fast w.state.facts high → fast ≡ false
      → low ≡ index_at operands 1 → on ≡ is_odd opcode → m ≡ set_through w.gflags low high on
      → r ≡ flags_in w m → r ≡ fliprg_of f opcode operands w
  unfolding fliprg_of
  range_set h a b p d o e q = two_there w operands _ h (rw (sym a, sym b, p, sym d, sym o) (q ∙ ap (flags_in w) e))
