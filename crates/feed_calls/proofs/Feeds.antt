-- What is kept of a feed between calls, by what the parts of a call ensure. Assumes nothing.
use mathlib.Core.Path.{◌≡◌, refl, sym}
use mathlib.Core.List.{List, [], ◌∷◌}
use Prim.Native.Nat.{ℕ, ◌<◌, ◌≤◌}
use native.Mathlib.Omega.{arith}
use borrow.Author.Tests.{eq-eqb, le-leb, lt-leb, ne_eqb}
use lib.ListN.{get_or-eq_default, length, set}
use Rattle.feed_calls.specs.Left.{bad_word}
use Rattle.feed_calls.specs.Feed.{fed_words, feed_size, kept, said_before}

-- ---- the five numbers
all_set : (l : List ℕ) (n p k d h : ℕ) → length l ≡ feed_size → set (set (set (set (set l 0 n) 1 p) 2 k) 3 d) 4 h ≡ n ∷ p ∷ k ∷ d ∷ h ∷ []
all_set [] n p k d h e = absurd (omega arith)
all_set (a ∷ []) n p k d h e = absurd (omega arith)
all_set (a ∷ b ∷ []) n p k d h e = absurd (omega arith)
all_set (a ∷ b ∷ c ∷ []) n p k d h e = absurd (omega arith)
all_set (a ∷ b ∷ c ∷ x ∷ []) n p k d h e = absurd (omega arith)
all_set (a ∷ b ∷ c ∷ x ∷ y ∷ []) n p k d h e = refl
all_set (a ∷ b ∷ c ∷ x ∷ y ∷ z ∷ l) n p k d h e = absurd (omega arith)

pub five_set : (l : List ℕ) (n p k d h : ℕ) → length l ≡ feed_size → set (set (set (set (set l 0 n) 1 p) 2 k) 3 d) 4 h ≡ fed_words n p k d h l
unfolding fed_words
five_set l n p k d h e = rw (eq-eqb (length l) feed_size e) (all_set l n p k d h e)

pub no_feed_set : (l : List ℕ) (n p k d h : ℕ) → (length l ≡ feed_size → ⊥) → l ≡ fed_words n p k d h l
unfolding fed_words
no_feed_set l n p k d h e = rw (ne_eqb (length l) feed_size e)

pub outside : (feed : List ℕ) (k : ℕ) → length feed ≤ k → 0 ≡ kept feed k
outside feed k h = sym (get_or-eq_default feed 0 {n = k} h)

-- ---- what a feed said
pub no_feed : (feed : List ℕ) → (length feed ≡ feed_size → ⊥) → bad_word ≡ said_before feed
unfolding said_before
no_feed feed e = rw (ne_eqb (length feed) feed_size e)

pub never_said : (feed : List ℕ) → length feed ≡ feed_size → 18 < kept feed 0 → bad_word ≡ said_before feed
unfolding said_before
never_said feed e h = rw (eq-eqb (length feed) feed_size e, lt-leb (kept feed 0) 18 h)

pub once_said : (feed : List ℕ) → length feed ≡ feed_size → kept feed 0 ≤ 18 → kept feed 0 ≡ said_before feed
unfolding said_before
once_said feed e h = rw (eq-eqb (length feed) feed_size e, le-leb (kept feed 0) 18 h)
