-- What a call leaves, by what its parts ensure: `write_answer`, a call that is taken, and one that is refused. Assumes nothing.
use Rattle.std.specs.Prelude.{Option, Some, None}
use mathlib.Core.Path.{◌≡◌, refl, ap, sym, ◌∙◌}
use mathlib.Core.Bool.{true, false}
use mathlib.Core.List.{List, [], ◌∷◌}
use Prim.Native.Nat.{ℕ}
use native.Mathlib.Omega.{arith}
use borrow.Author.Tests.{eq-eqb, ne_eqb}
use lib.Dec.{eqb}
use lib.IntN.{ℤ}
use lib.ListN.{length, set}
use Rattle.graphics.proofs.Laws.{and_left, and_right}
use Rattle.graphics.specs.declared.GraphicsState.{GraphicsState}
use Rattle.line.specs.World.{Fixed, world}
use Rattle.rules.specs.declared.Rules.{Rules}
use Rattle.run_lines.specs.declared.Outcome.{Outcome}
use Rattle.run_lines.specs.Onward.{ran, number_of_answer, detail_of_answer}
use Rattle.replay.specs.Run.{run_of}
use Rattle.state_words.specs.Words.{state_size, state_words, state_of, is_state, written}
use Rattle.state_words.proofs.Back.{size_is}
use Rattle.feed_calls.specs.Left.{Left, bad_word, left}
use Rattle.exports.specs.Call.{answered, answer_size, call_of, handed_back, is_call}

-- ---- the answer
all_set : (l : List ℕ) (n p k d : ℕ) → length l ≡ answer_size → set (set (set (set l 0 n) 1 p) 2 k) 3 d ≡ n ∷ p ∷ k ∷ d ∷ []
all_set [] n p k d e = absurd (omega arith)
all_set (a ∷ []) n p k d e = absurd (omega arith)
all_set (a ∷ b ∷ []) n p k d e = absurd (omega arith)
all_set (a ∷ b ∷ c ∷ []) n p k d e = absurd (omega arith)
all_set (a ∷ b ∷ c ∷ x ∷ []) n p k d e = refl
all_set (a ∷ b ∷ c ∷ x ∷ y ∷ l) n p k d e = absurd (omega arith)

pub four_set : (l : List ℕ) (n p k d : ℕ) → length l ≡ answer_size → set (set (set (set l 0 n) 1 p) 2 k) 3 d ≡ answered n p k d l
unfolding answered
four_set l n p k d e = rw (eq-eqb (length l) answer_size e) (all_set l n p k d e)

pub none_set : (l : List ℕ) (n p k d : ℕ) → (length l ≡ answer_size → ⊥) → l ≡ answered n p k d l
unfolding answered
none_set l n p k d e = rw (ne_eqb (length l) answer_size e)

-- ---- the state and the answer of a call that is taken
module _ (words answer : List ℕ) (e : is_call words answer ≡ true) where
  state_taken : is_state words ≡ true
  unfolding is_call
  state_taken = and_left (is_state words) (eqb (length answer) answer_size) e

  state_left : (s : GraphicsState) → written s words ≡ state_words s
  unfolding written
  state_left s = rw (eq-eqb (length words) state_size (size_is words state_taken))

  answer_left : (n p k d : ℕ) → answered n p k d answer ≡ n ∷ p ∷ k ∷ d ∷ []
  unfolding answered is_call
  answer_left n p k d = rw (and_right (is_state words) (eqb (length answer) answer_size) e)

-- ---- the whole call
module _
    (f : Rules → Fixed) (sheet : List ℤ) (budget start : ℕ) (words answer : List ℕ)
    (gx gy : List ℤ) (gflags : List ℕ) (tox toy tx ty : List ℤ) (tflags : List ℕ) (named : Option Rules)
    (n : ℕ) (answer' : List ℕ)
  where
    abbrev called : Option Rules → Left
    called = call_of f sheet budget start words answer gx gy gflags tox toy tx ty tflags

    pub taken :
        (o : Outcome) (rules : Rules) (s : GraphicsState) (words' : List ℕ)
        (gx' gy' : List ℤ) (gflags' : List ℕ) (tox' toy' tx' ty' : List ℤ) (tflags' : List ℕ)
        → named ≡ Some rules
        → is_call words answer ≡ true
        → s ≡ state_of words
        → ran o gx' gy' gflags' tox' toy' tx' ty' tflags' ≡ run_of (f rules) sheet budget start (world s gx gy gflags tox toy tx ty tflags)
        → n ≡ number_of_answer o.answer
        → words' ≡ written o.state words
        → answer' ≡ answered (number_of_answer o.answer) o.place o.lines (detail_of_answer o.answer) answer
        → left n words' answer' gx' gy' gflags' tox' toy' tx' ty' tflags' ≡ called named
    unfolding call_of
    taken o rules s words' gx' gy' gflags' tox' toy' tx' ty' tflags' ruled call reads runs number state says =
        rw (ruled, call)
        (ap (λ (m : ℕ). left m words' answer' gx' gy' gflags' tox' toy' tx' ty' tflags') number
        ∙ ap (λ (ws : List ℕ). left (number_of_answer o.answer) ws answer' gx' gy' gflags' tox' toy' tx' ty' tflags') (state ∙ state_left words answer call o.state)
        ∙ ap (λ (l : List ℕ). left (number_of_answer o.answer) (state_words o.state) l gx' gy' gflags' tox' toy' tx' ty' tflags')
        (says ∙ answer_left words answer call (number_of_answer o.answer) o.place o.lines (detail_of_answer o.answer))
        ∙ ap handed_back (runs ∙ ap (λ (t : GraphicsState). run_of (f rules) sheet budget start (world t gx gy gflags tox toy tx ty tflags)) reads))

    refusal : n ≡ bad_word → answer' ≡ answered bad_word start 0 0 answer → left n words answer' gx gy gflags tox toy tx ty tflags ≡ left bad_word words (answered bad_word start 0 0 answer) gx gy gflags tox toy tx ty tflags
    refusal number says =
        ap (λ (m : ℕ). left m words answer' gx gy gflags tox toy tx ty tflags) number
        ∙ ap (λ (l : List ℕ). left bad_word words l gx gy gflags tox toy tx ty tflags) says

    pub unnamed : named ≡ None → n ≡ bad_word → answer' ≡ answered bad_word start 0 0 answer → left n words answer' gx gy gflags tox toy tx ty tflags ≡ called named
    unfolding call_of
    unnamed ruled number says = refusal number says ∙ sym (ap called ruled)

    pub refused :
        (rules : Rules)
        → named ≡ Some rules
        → is_call words answer ≡ false
        → n ≡ bad_word
        → answer' ≡ answered bad_word start 0 0 answer
        → left n words answer' gx gy gflags tox toy tx ty tflags ≡ called named
    unfolding call_of
    refused rules ruled call number says = rw (ruled, call) (refusal number says)
