-- `state_words::words_of` meets its contract: each word is the one of its place. Assumes nothing.
use Rattle.std.proofs.Common.{◌≡◌, ℕ, List, ◌∷◌, refl, ap₂}
use Rattle.state_words.specs.Words.{state_words}
use Rattle.state_words.proofs.words_of.Goals as goal

infixr 5 ◌∷≡◌
◌∷≡◌ : {x y : ℕ} {l m : List ℕ} → x ≡ y → l ≡ m → x ∷ l ≡ y ∷ m
e ∷≡ f = ap₂ (λ (x : ℕ) (l : List ℕ). x ∷ l) e f

pub returns : goal.returns
unfolding state_words
returns c =
    c.word_of.ensures ∷≡ c.word_of-2.ensures ∷≡ c.word_of-3.ensures ∷≡ c.word_of-4.ensures ∷≡ c.word_of-5.ensures ∷≡
    c.word_of-6.ensures ∷≡ c.word_of-7.ensures ∷≡ c.word_of-8.ensures ∷≡ c.word_of-9.ensures ∷≡ c.word_of-10.ensures ∷≡
    c.word_of-11.ensures ∷≡ c.word_of-12.ensures ∷≡ c.word_of-13.ensures ∷≡ c.word_of-14.ensures ∷≡ c.word_of-15.ensures ∷≡
    c.word_of-16.ensures ∷≡ c.word_of-17.ensures ∷≡ c.word_of-18.ensures ∷≡ c.word_of-19.ensures ∷≡ c.word_of-20.ensures ∷≡
    c.word_of-21.ensures ∷≡ c.word_of-22.ensures ∷≡ c.word_of-23.ensures ∷≡ c.word_of-24.ensures ∷≡ c.word_of-25.ensures ∷≡
    c.word_of-26.ensures ∷≡ c.word_of-27.ensures ∷≡ c.word_of-28.ensures ∷≡ c.word_of-29.ensures ∷≡ c.word_of-30.ensures ∷≡
    c.word_of-31.ensures ∷≡ c.word_of-32.ensures ∷≡ c.word_of-33.ensures ∷≡ c.word_of-34.ensures ∷≡ refl
