-- A loop with an index k over the operands, beside `each`: what is left to do from k on is `each f (count - k) (drop k operands)`, and
-- each way on or out of the loop is one case of the definition. Every loop of a line cites these. Assumes nothing.
use Rattle.std.specs.Prelude.{⊤, Result, Ok, Err}
use mathlib.Core.Path.{◌≡◌, refl, sym, ap, ◌∙◌}
use mathlib.Core.Logic.{⊎_elim}
use mathlib.Core.Bool.{Bool, true, false, cond}
use mathlib.Core.List.{List, [], ◌∷◌}
use Prim.Native.Nat.{ℕ, zero, suc, ◌+◌, ◌-◌, ◌^◌, ◌≤◌, ◌<◌}
use native.Mathlib.Omega.{arith}
use borrow.Author.Tests.{lt-ltb, le-ltb}
use lib.Dec.{ltb}
use lib.IntN.{ℤ, pos}
use lib.Signed.{mag}
use lib.ListN.{length, drop, get_or, drop_of_length-le}
use lib.Seq.{drop-cons}
use mir.Syntax.{w32}
use mir.Val.{to_z, of_z}
use Rattle.answer.specs.declared.Refusal.{Refusal}
use Rattle.answer.specs.declared.Refusal.TheVariants.{Missing}
use Rattle.int.proofs.Ints.{split}
use Rattle.int.proofs.Words.{back32}
use Rattle.int.specs.Word.{index_of}
use Rattle.line_steps.specs.Loop.{Ended, ended, onward, each, pass, take_of}

-- ---- the cases of the definition, the counter any number
module _ {S : Type 0} (f : ℕ → S → Ended S) where
  none_left : (n : ℕ) (operands : List ℤ) (s : S) → n ≤ 0 → ended (Ok tt) s ≡ each f n operands s
  unfolding each
  none_left zero operands s h = refl
  none_left (suc n) operands s h = absurd (omega arith)

  run_out : (n : ℕ) (s : S) → 0 < n → ended (Err Missing) s ≡ each f n [] s
  unfolding each
  run_out zero s h = absurd (omega arith)
  run_out (suc n) s h = refl

  one_step : (n : ℕ) (z : ℤ) (rest : List ℤ) (s : S) → 0 < n → onward (each f (n - 1) rest) (f (index_of z) s).left (f (index_of z) s).call ≡ each f n (z ∷ rest) s
  unfolding each
  one_step zero z rest s h = absurd (omega arith)
  one_step (suc n) z rest s h = let e : suc n - 1 ≡ n = omega arith in rw e

-- ---- a loop of one step is the step
module _ {S : Type 0} (f : ℕ → S → Ended S) where
  last : (rest : List ℤ) (call : Result ⊤ Refusal) (left : S) → onward (each f 0 rest) left call ≡ ended call left
  unfolding onward each
  last rest (Ok tt) left = refl
  last rest (Err why) left = refl

  pub once_missing : (operands : List ℤ) (s : S) → length operands ≡ 0 → ended (Err Missing) s ≡ each f 1 operands s
  unfolding each
  once_missing [] s e = refl
  once_missing (z ∷ rest) s e = absurd (omega arith)

  pub once_there : (operands : List ℤ) (s : S) → (length operands ≡ 0 → ⊥) → f (index_of (get_or operands 0 (pos 0))) s ≡ each f 1 operands s
  unfolding each
  once_there [] s n = absurd (n refl)
  once_there (z ∷ rest) s n = sym (last rest (f (index_of z) s).call (f (index_of z) s).left)

-- ---- the cases of the loop
module _ {S : Type 0} (f : ℕ → S → Ended S) (count : ℕ) (operands : List ℤ) (k : ℕ) (s : S) where
  -- the counter is used up
  pub finished : count ≤ k → ended (Ok tt) s ≡ each f (count - k) (drop k operands) s
  finished h = none_left f (count - k) (drop k operands) s (omega arith)

  -- an operand is wanted
  pub missing : k < count → length operands ≤ k → ended (Err Missing) s ≡ each f (count - k) (drop k operands) s
  missing g h = rw (drop_of_length-le operands h) (run_out f (count - k) s (omega arith))

  module _ (g : k < count) (h : k < length operands) {at : ℕ} (here : at ≡ index_of (get_or operands k (pos 0))) {call : Result ⊤ Refusal} {left : S} (step : ended call left ≡ f at s) where
    stepped : onward (each f (count - k - 1) (drop (suc k) operands)) left call ≡ each f (count - k) (drop k operands) s
    stepped =
        ap (λ (e : Ended S). onward (each f (count - k - 1) (drop (suc k) operands)) e.left e.call) (step ∙ ap (λ (i : ℕ). f i s) here)
        ∙ one_step f (count - k) (get_or operands k (pos 0)) (drop (suc k) operands) s (omega arith)
        ∙ ap (λ (l : List ℤ). each f (count - k) l s) (sym (drop-cons operands k (pos 0) h))

    -- the step was refused
    pub stopped : {why : Refusal} → call ≡ Err why → ended (Err why) left ≡ each f (count - k) (drop k operands) s
    unfolding onward
    stopped e = ap (onward (each f (count - k - 1) (drop (suc k) operands)) left) (sym e) ∙ stepped

    -- the step was done
    pub turned : call ≡ Ok tt → each f (count - (k + 1)) (drop (k + 1) operands) left ≡ each f (count - k) (drop k operands) s
    unfolding onward
    turned e =
        let p : count - (k + 1) ≡ count - k - 1 = omega arith in let q : k + 1 ≡ suc k = omega arith in
        rw (p, q) (ap (onward (each f (count - k - 1) (drop (suc k) operands)) left) (sym e) ∙ stepped)

-- ---- the loop's invariant
-- what is left to do from here is the whole
abbrev pub Left : {S : Type 0} → (ℕ → S → Ended S) → ℕ → List ℤ → S → ℕ → S → Type 0
Left f count operands start k s = each f (count - k) (drop k operands) s ≡ each f count operands start

pub begun : {S : Type 0} (f : ℕ → S → Ended S) (count : ℕ) (operands : List ℤ) (start : S) → Left f count operands start 0 start
begun f count operands start = let e : count - 0 ≡ count = omega arith in rw e

-- an operand as an index, read back
pub read : (z : ℤ) {n : ℕ} → mag z < 2 ^ 31 → n ≡ index_of (to_z w32 (of_z w32 z)) → n ≡ index_of z
read z f e = e ∙ ap index_of (back32 z f)

-- ---- steps that look at nothing
both_less : (a b : ℕ) → ltb (suc a) (suc b) ≡ ltb a b
both_less a b = ⊎_elim
    (λ less. lt-ltb (suc a) (suc b) (omega (arith, less)) ∙ sym (lt-ltb a b less))
    (λ more. le-ltb (suc a) (suc b) (omega (arith, more)) ∙ sym (le-ltb a b more))
    (split a b)

pub passed : {S : Type 0} (count : ℕ) (operands : List ℤ) (s : S) → ended (take_of count operands) s ≡ each pass count operands s
unfolding each onward
passed zero operands s = rw (le-ltb (length operands) 0 (omega arith))
passed (suc n) [] s = rw (lt-ltb 0 (suc n) (omega arith))
passed (suc n) (z ∷ rest) s = ap (λ (less : Bool). ended (cond less (Err Missing) (Ok tt)) s) (both_less (length rest) n) ∙ passed n rest s
