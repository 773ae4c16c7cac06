-- What a list of words in bytes is: its length, each of its words, and what is left of it after some. Assumes nothing.
use Rattle.std.proofs.Common.{◌≡◌, ℕ, zero, suc, ◌+◌, ◌-◌, ◌*◌, ◌/◌, ◌%◌, ◌^◌, ◌<◌, ◌≤◌, true, false, cond, ◌&&◌, leb, List, [], ◌∷◌, map, length, get_or, ℤ, sym, refl, ap, ◌∙◌, ap₂, arith, le-leb}
use lib.ListN.{length-map, get_or-map}
use borrow.Author.Tests.{lt-leb}
use Rattle.words.specs.Lists.{word, part, all_at_most, sum_of}

-- ---- one word
-- a word that begins at or behind the last whole one reads as 0
pub beyond : (bytes : List ℕ) (k : ℕ) → length bytes / 4 ≤ k → 0 ≡ word bytes k
beyond bytes k h = rw (lt-leb (k * 4 + 4) (length bytes) (omega arith)) refl

-- ---- a list of words
pub part_length : (bytes : List ℕ) (first count : ℕ) → length (part bytes first count) ≡ count
part_length bytes first zero = refl
part_length bytes first (suc count) = ap suc (part_length bytes (suc first) count)

pub part_at : (bytes : List ℕ) (first count k : ℕ) → k < count → word bytes (first + k) ≡ get_or (part bytes first count) k 0
part_at bytes first zero k h = absurd (omega arith)
part_at bytes first (suc count) zero h = let e : first + 0 ≡ first = omega arith in ap (word bytes) e
part_at bytes first (suc count) (suc k) h = let e : first + suc k ≡ suc first + k = omega arith in ap (word bytes) e ∙ part_at bytes (suc first) count k (omega arith)

pub mapped_length : {A : Type 0} (f : ℕ → A) (bytes : List ℕ) (first count : ℕ) → length (map f (part bytes first count)) ≡ count
mapped_length f bytes first count = length-map (part bytes first count) f ∙ part_length bytes first count

pub mapped_at : {A : Type 0} (f : ℕ → A) (bytes : List ℕ) (first count k : ℕ) → k < count → f (word bytes (first + k)) ≡ get_or (map f (part bytes first count)) k (f 0)
mapped_at f bytes first count k h = ap f (part_at bytes first count k h) ∙ sym (get_or-map f (part bytes first count) k 0)

-- ---- what is left of it after i words
abbrev pub left : List ℕ → ℕ → ℕ → ℕ → List ℕ
left bytes first count i = part bytes (first + i) (count - i)

pub left_all : (bytes : List ℕ) (first count : ℕ) → part bytes first count ≡ left bytes first count 0
left_all bytes first count =
    let a : first ≡ first + 0 = omega arith in
    let b : count ≡ count - 0 = omega arith in
    ap₂ (part bytes) a b

pub left_next : (bytes : List ℕ) (first count i : ℕ) → i < count → left bytes first count i ≡ word bytes (first + i) ∷ left bytes first count (i + 1)
left_next bytes first count i h =
    let b : count - i ≡ suc (count - (i + 1)) = omega arith in
    let a : suc (first + i) ≡ first + (i + 1) = omega arith in
    ap (part bytes (first + i)) b ∙ ap (λ (f : ℕ). word bytes (first + i) ∷ part bytes f (count - (i + 1))) a

pub left_none : (bytes : List ℕ) (first count i : ℕ) → count ≤ i → left bytes first count i ≡ []
left_none bytes first count i h = let b : count - i ≡ 0 = omega arith in ap (part bytes (first + i)) b

-- ---- tests over what is left
module _ (bytes : List ℕ) (first count i : ℕ) (h : i < count) where
  pub next_within : (most : ℕ) → word bytes (first + i) ≤ most → all_at_most most (left bytes first count i) ≡ all_at_most most (left bytes first count (i + 1))
  next_within most l = ap (all_at_most most) (left_next bytes first count i h) ∙ rw (le-leb (word bytes (first + i)) most l) refl

  pub next_above : (most : ℕ) → most < word bytes (first + i) → false ≡ all_at_most most (left bytes first count i)
  next_above most l = sym (ap (all_at_most most) (left_next bytes first count i h) ∙ rw (lt-leb (word bytes (first + i)) most l) refl)

  pub next_sum : sum_of (left bytes first count i) ≡ word bytes (first + i) + sum_of (left bytes first count (i + 1))
  next_sum = ap sum_of (left_next bytes first count i h)

-- ---- a wrapping sum: what is summed so far and what is left make the whole
pub record Summing (all rest sum : ℕ) : Type 0 where
  pub small : sum < 2 ^ 32
  pub whole : (sum + rest) % 2 ^ 32 ≡ all % 2 ^ 32

pub sum_start : (all rest : ℕ) → all ≡ rest → Summing all rest 0
sum_start all rest e = record { small = omega arith; whole = omega arith }

pub sum_turn : {all rest sum next : ℕ} (w more : ℕ) → Summing all rest sum → rest ≡ w + more → next ≡ (sum + w) % 2 ^ 32 → Summing all more next
sum_turn w more v e n = record { small = omega arith; whole = omega (arith, v.whole) }

pub sum_end : {all rest sum : ℕ} → Summing all rest sum → rest ≡ 0 → sum ≡ all % 2 ^ 32
sum_end v e = omega (arith, v.whole, v.small)
