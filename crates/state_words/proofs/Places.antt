-- Where each part of a state stands among its words. Assumes nothing.
use mathlib.Core.Path.{◌≡◌, refl, sym, ap}
use mathlib.Core.List.{List, [], ◌∷◌, ◌++◌}
use Prim.Native.Nat.{ℕ, ◌-◌, ◌≤◌, ◌<◌}
use native.Mathlib.Omega.{arith}
use lib.ListN.{length, get_or, get_or-append, get_or-eq_default}
use Rattle.int.specs.Word.{bits_of}
use Rattle.graphics.specs.declared.GraphicsState.{GraphicsState}
use Rattle.state_words.specs.Words.{state_size, vectors_words, round_words, references_words, pointers_words, facts_words, distance_words, push_words, state_words, word_of}
use Rattle.state_words.proofs.Parts.{in_part, past}

pub state_size_lem : (s : GraphicsState) → length (state_words s) ≡ state_size
unfolding state_words
state_size_lem s = refl

-- the words before a part, and those behind it
abbrev before10 : GraphicsState → List ℕ
before10 s = vectors_words s.vectors ++ round_words s.round

abbrev before17 : GraphicsState → List ℕ
before17 s = before10 s ++ (references_words s.references ++ (s.loop_counter ∷ []))

abbrev before20 : GraphicsState → List ℕ
before20 s = before17 s ++ pointers_words s.pointers

abbrev before27 : GraphicsState → List ℕ
before27 s = before20 s ++ (facts_words s.facts ++ (bits_of s.measures.cut_in ∷ s.tallies.wrapped_roundings ∷ []))

abbrev before32 : GraphicsState → List ℕ
before32 s = before27 s ++ distance_words s.measures

abbrev from25 : GraphicsState → List ℕ
from25 s = bits_of s.measures.cut_in ∷ s.tallies.wrapped_roundings ∷ (distance_words s.measures ++ push_words s.tallies)

abbrev from20 : GraphicsState → List ℕ
from20 s = facts_words s.facts ++ from25 s

abbrev from16 : GraphicsState → List ℕ
from16 s = s.loop_counter ∷ (pointers_words s.pointers ++ from20 s)

abbrev from10 : GraphicsState → List ℕ
from10 s = references_words s.references ++ from16 s

abbrev from6 : GraphicsState → List ℕ
from6 s = round_words s.round ++ from10 s

module _ (s : GraphicsState) (k : ℕ) where
  pub vectors_at : k < 6 → get_or (vectors_words s.vectors) k 0 ≡ word_of s k
  unfolding state_words
  vectors_at h = sym (get_or-append (vectors_words s.vectors) (from6 s) 0 k h)

  pub round_at : 6 ≤ k → k < 10 → get_or (round_words s.round) (k - 6) 0 ≡ word_of s k
  unfolding state_words
  round_at l h = sym (in_part (vectors_words s.vectors) (round_words s.round) (from10 s) k l (omega arith))

  pub references_at : 10 ≤ k → k < 16 → get_or (references_words s.references) (k - 10) 0 ≡ word_of s k
  unfolding state_words
  references_at l h = sym (in_part (before10 s) (references_words s.references) (from16 s) k l (omega arith))

  pub loop_at : 16 ≤ k → k < 17 → s.loop_counter ≡ word_of s k
  unfolding state_words
  loop_at l h = let e : 16 ≡ k = omega arith in ap (word_of s) e

  pub pointers_at : 17 ≤ k → k < 20 → get_or (pointers_words s.pointers) (k - 17) 0 ≡ word_of s k
  unfolding state_words
  pointers_at l h = sym (in_part (before17 s) (pointers_words s.pointers) (from20 s) k l (omega arith))

  pub facts_at : 20 ≤ k → k < 25 → get_or (facts_words s.facts) (k - 20) 0 ≡ word_of s k
  unfolding state_words
  facts_at l h = sym (in_part (before20 s) (facts_words s.facts) (from25 s) k l (omega arith))

  pub cut_in_at : 25 ≤ k → k < 26 → bits_of s.measures.cut_in ≡ word_of s k
  unfolding state_words
  cut_in_at l h = let e : 25 ≡ k = omega arith in ap (word_of s) e

  pub wrapped_at : 26 ≤ k → k < 27 → s.tallies.wrapped_roundings ≡ word_of s k
  unfolding state_words
  wrapped_at l h = let e : 26 ≡ k = omega arith in ap (word_of s) e

  pub distances_at : 27 ≤ k → k < 32 → get_or (distance_words s.measures) (k - 27) 0 ≡ word_of s k
  unfolding state_words
  distances_at l h = sym (in_part (before27 s) (distance_words s.measures) (push_words s.tallies) k l (omega arith))

  -- the last part: outside it stands 0
  pub pushes_at : 32 ≤ k → get_or (push_words s.tallies) (k - 32) 0 ≡ word_of s k
  unfolding state_words
  pushes_at l = sym (past (before32 s) (push_words s.tallies) k l)

-- 0 stands outside
pub outside : (ws : List ℕ) (k : ℕ) → length ws ≤ k → 0 ≡ get_or ws k 0
outside ws k h = sym (get_or-eq_default ws 0 {n = k} h)
