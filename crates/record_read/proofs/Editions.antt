-- The editions of a record, by how many words of the state each keeps. Assumes nothing.
use mathlib.Core.List.{List, ◌++◌}
use mathlib.Core.Bool.{cond}
use mathlib.Core.Path.{◌∙◌, ◌≡◌, ap, ap₂, refl, sym}
use Prim.Native.Nat.{◌<◌, ◌≤◌, suc, zero, ℕ}
use native.Mathlib.Omega.{arith}
use borrow.Author.Tests.{eq-eqb}
use lib.ListN.{drop, length, take}
use lib.Seq.{length-take-le}
use Rattle.graphics.specs.State.{fresh_state}
use Rattle.state_words.specs.Words.{state_size, state_words, written}
use Rattle.words.specs.Lists.{part}
use Rattle.record_read.specs.Read.{kept_by, kept_in, state_in, trailer_word}

pub none_kept : (e : ℕ) → (e ≡ 1 → ⊥) → (e ≡ 2 → ⊥) → (e ≡ 3 → ⊥) → 0 ≡ kept_by e
none_kept zero a b c = refl
none_kept (suc zero) a b c = absurd (a refl)
none_kept (suc (suc zero)) a b c = absurd (b refl)
none_kept (suc (suc (suc zero))) a b c = absurd (c refl)
none_kept (suc (suc (suc (suc e)))) a b c = refl

pub kept_most : (e : ℕ) → kept_by e ≤ state_size
kept_most zero = omega arith
kept_most (suc zero) = omega arith
kept_most (suc (suc zero)) = omega arith
kept_most (suc (suc (suc zero))) = omega arith
kept_most (suc (suc (suc (suc e)))) = omega arith

-- an edition that there is keeps 26 at least
pub kept_some : (e : ℕ) → 0 < kept_by e → 26 ≤ kept_by e
kept_some zero h = omega (arith, h)
kept_some (suc zero) h = omega arith
kept_some (suc (suc zero)) h = omega arith
kept_some (suc (suc (suc zero))) h = omega arith
kept_some (suc (suc (suc (suc e)))) h = omega (arith, h)

-- ---- the words that were read over the first of the fresh state's
pub all_fresh : (words : List ℕ) {after : List ℕ} → length words ≡ state_size → after ≡ written fresh_state words → after ≡ state_words fresh_state
unfolding written
all_fresh words h e = e ∙ ap (λ b. cond b (state_words fresh_state) words) (eq-eqb (length words) state_size h)

fresh_size : length (state_words fresh_state) ≡ state_size
unfolding state_words
fresh_size = refl

module _ (bytes words : List ℕ) {n k : ℕ} (ek : k ≡ kept_in bytes) (en : n ≡ k) (ew : words ≡ state_words fresh_state) where
  pub has_room : n ≤ length words
  has_room = omega (arith, kept_most (trailer_word bytes 5), ek, en, ap length ew, fresh_size)

  pub lent : n ≡ length (take n words)
  lent = sym (length-take-le n words has_room)

  pub loaded : {front : List ℕ} → front ≡ part bytes 0 (length (take n words)) → front ++ drop n words ≡ state_in bytes
  loaded e = ap₂ (λ a b. a ++ b) (e ∙ ap (part bytes 0) (sym lent ∙ en ∙ ek)) (ap₂ drop (en ∙ ek) ew)
