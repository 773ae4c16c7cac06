-- `state_words::is_state` meets its contract: it is the four tests. Assumes nothing.
use borrow.Author.Tests.{eq-eqb, ne_eqb}
use mathlib.Core.Bool.{Bool, ◌&&◌, false}
use mathlib.Core.List.{List}
use mathlib.Core.Path.{◌∙◌, ◌≡◌, ap, sym}
use Prim.Native.Nat.{ℕ}
use lib.Dec.{leb}
use lib.ListN.{drop, length, take}
use Rattle.words.specs.Lists.{all_at_most}
use Rattle.state_words.specs.Words.{is_state, state_size, state_word}
use Rattle.state_words.proofs.Same.{same_and}
use Rattle.state_words.proofs.is_state.Goals as goal

-- ---- by the number of words
-- what the words are tested for, in as many as `long` says
abbrev tested : List ℕ → Bool → Bool
tested ws long = long && leb (state_word ws 6) 7 && all_at_most 1 (take 8 (drop 17 ws)) && leb (state_word ws 30) 1

too_many_or_few : (ws : List ℕ) → (length ws ≡ state_size → ⊥) → false ≡ is_state ws
unfolding is_state
too_many_or_few ws h = sym (ap (tested ws) (ne_eqb (length ws) state_size h))

as_many :
    (ws : List ℕ) {a b c : Bool}
    → length ws ≡ state_size → a ≡ leb (state_word ws 6) 7 → b ≡ all_at_most 1 (take 8 (drop 17 ws)) → c ≡ leb (state_word ws 30) 1 → a && b && c ≡ is_state ws
unfolding is_state
as_many ws h ea eb ec = same_and (same_and ea eb) ec ∙ sym (ap (tested ws) (eq-eqb (length ws) state_size h))

pub returns-then-words-ne-STATE_WORDS : goal.returns-then-words-ne-STATE_WORDS
returns-then-words-ne-STATE_WORDS c = too_many_or_few c.args.words.now c.if-words-ne-STATE_WORDS.true

pub returns : goal.returns
returns c =
    let part = c in
    let sized = part in
    as_many sized.args.words.now sized.if-words-ne-STATE_WORDS.false part.at_most.ensures part.all_at_most.ensures c.at_most-2.ensures
