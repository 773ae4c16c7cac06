-- Exact numbers at 64 bits, and what is left of them at 32. Assumes nothing.
use mathlib.Core.Path.{◌≡◌, refl, ap, ap₂, sym, ◌∙◌}
use mathlib.Core.Bool.{Bool, true, false, ◌||◌, not}
use mathlib.Core.Logic.{⊎_elim}
use Prim.Native.Nat.{suc, ◌-◌, ◌^◌}
use native.Mathlib.Omega.{arith}
use borrow.Author.Tests.{eq-eqb, ne_eqb}
use lib.Dec.{eqb}
use lib.IntN.{ℤ, pos, negsuc}
use mir.Syntax.{w32, w64}
use mir.Val.{SFits, to_z, of_z}
use mir.Facts.{to_z-of_z}
use Rattle.int.proofs.Ints.{split}
use Rattle.int.proofs.Words.{wide_fits}
use Rattle.int.proofs.Wraps.{wrap_fits}
use Rattle.int.specs.Word.{eq_z, wrap32}
use Rattle.round.specs.Tracked.{cut, past}
use Rattle.round.specs.declared.Tracked.{Tracked}

-- two words of 64 bits are equal where their bits are
same_wide : (a b : ℤ) → SFits w64 a → SFits w64 b → eqb (of_z w64 a) (of_z w64 b) ≡ eq_z a b
same_wide (pos a) (pos b) f g = refl
same_wide (pos a) (negsuc b) f g = ne_eqb a (2 ^ 64 - suc b) (λ e. omega (arith, f.sfits, g.sfits))
same_wide (negsuc a) (pos b) f g = ne_eqb (2 ^ 64 - suc a) b (λ e. omega (arith, f.sfits, g.sfits))
same_wide (negsuc a) (negsuc b) f g = ⊎_elim
    (λ l. rw (ne_eqb a b (λ e. omega arith), ne_eqb (2 ^ 64 - suc a) (2 ^ 64 - suc b) (λ e. omega (arith, f.sfits, g.sfits))))
    (λ l. ⊎_elim
    (λ m. rw (ne_eqb a b (λ e. omega arith), ne_eqb (2 ^ 64 - suc a) (2 ^ 64 - suc b) (λ e. omega (arith, f.sfits, g.sfits))))
    (λ m. let e : a ≡ b = omega arith in rw e (eq-eqb (2 ^ 64 - suc b) (2 ^ 64 - suc b) refl ∙ sym (eq-eqb b b refl)))
    (split b a))
    (split a b)

-- a number cut to a word, as the machine tests it
pub cut_from : (before : Bool) {z w : ℤ} → SFits w64 z → w ≡ wrap32 z → Path Tracked (record { word = w; wrapped = before || not (eqb (of_z w64 w) (of_z w64 z)) }) (cut before z)
unfolding past
cut_from before {z} f e = rw (e, same_wide (wrap32 z) z (wide_fits (wrap_fits z)) f) refl

-- a word and its mark, to say that each of them is another
abbrev pub tracked : ℤ → Bool → Tracked
tracked word wrapped = record { word = word; wrapped = wrapped }

pub or_no : (b : Bool) → b || false ≡ b
or_no true = refl
or_no false = refl
