-- Words written into bytes, one after the other: what is written so far and what is left make the whole. Assumes nothing.
use Rattle.std.proofs.Common.{◌≡◌, ℕ, suc, ◌+◌, ◌*◌, ◌/◌, ◌%◌, ◌<◌, ◌≤◌, Bool, true, false, leb, List, [], ◌∷◌, ◌++◌, map, length, get_or, take, drop, set, sym, refl, ap, ◌∙◌, ap₂, arith, drop_of_length-le, drop-cons, le-leb, leb-false, leb-true}
use borrow.Author.Tests.{lt-leb}
use lib.ListN.{length-map, get_or-map}
use lib.Seq.{length-sets, sets, sets-eq}
use Rattle.words.specs.Lists.{bytes_of, bytes_of_word, placed}

pub bytes_length : (ws : List ℕ) → length (bytes_of ws) ≡ length ws * 4
bytes_length [] = refl
bytes_length (w ∷ ws) = let e = bytes_length ws in omega arith

-- ---- where there is room, and where not
pub no_room : (first : ℕ) (ws l : List ℕ) → length l < (first + length ws) * 4 → l ≡ placed first ws l
unfolding placed
no_room first ws l h = rw (lt-leb ((first + length ws) * 4) (length l) h) refl

pub as_sets : (first : ℕ) (ws l : List ℕ) → (first + length ws) * 4 ≤ length l → placed first ws l ≡ sets l (first * 4) (bytes_of ws)
unfolding placed
as_sets first ws l h =
    let e : (first + length ws) * 4 ≡ first * 4 + length (bytes_of ws) = omega (arith, bytes_length ws) in
    rw (le-leb ((first + length ws) * 4) (length l) h)
    (ap (λ (n : ℕ). take (first * 4) l ++ bytes_of ws ++ drop n l) e ∙ sym (sets-eq (bytes_of ws) l (first * 4) (omega (arith, e))))

pub placed_length : (first : ℕ) (ws l : List ℕ) → (first + length ws) * 4 ≤ length l → length (placed first ws l) ≡ length l
placed_length first ws l h = ap length (as_sets first ws l h) ∙ length-sets l (first * 4) (bytes_of ws)

-- two tests that follow from each other
pub leb_same : (a b c d : ℕ) → (a ≤ b → c ≤ d) → (b < a → d < c) → leb a b ≡ leb c d
leb_same a b c d f g = by_test (leb a b) refl
  where
    by_test : (t : Bool) → leb a b ≡ t → leb a b ≡ leb c d
    by_test true e = e ∙ sym (le-leb c d (f (leb-true a b e)))
    by_test false e = e ∙ sym (lt-leb c d (g (leb-false a b e)))

-- ---- four bytes are a word
pub four_set : {a a' b b' c c' d d' : ℕ} (l : List ℕ) (at : ℕ) → a ≡ a' → b ≡ b' → c ≡ c' → d ≡ d' →
    set (set (set (set l at a) (at + 1) b) (at + 2) c) (at + 3) d ≡ set (set (set (set l at a') (at + 1) b') (at + 2) c') (at + 3) d'
four_set {a} {a'} {b} {b'} {c} {c'} {d} {d'} l at p q r s =
    ap₂ (λ (x y : ℕ). set (set (set (set l at x) (at + 1) y) (at + 2) c) (at + 3) d) p q
    ∙ ap₂ (λ (x y : ℕ). set (set (set (set l at a') (at + 1) b') (at + 2) x) (at + 3) y) r s

pub four_bytes : (l : List ℕ) (at w : ℕ) → set (set (set (set l at (w % 256)) (at + 1) (w / 256 % 256)) (at + 2) (w / 65536 % 256)) (at + 3) (w / 16777216 % 256) ≡ sets l at (bytes_of_word w)
four_bytes l at w =
    let e1 : at + 1 ≡ suc at = omega arith in
    let e2 : at + 2 ≡ suc (suc at) = omega arith in
    let e3 : at + 3 ≡ suc (suc (suc at)) = omega arith in
    ap (λ (j : ℕ). set (set (set (set l at (w % 256)) j (w / 256 % 256)) (at + 2) (w / 65536 % 256)) (at + 3) (w / 16777216 % 256)) e1
    ∙ ap (λ (j : ℕ). set (set (set (set l at (w % 256)) (suc at) (w / 256 % 256)) j (w / 65536 % 256)) (at + 3) (w / 16777216 % 256)) e2
    ∙ ap (λ (j : ℕ). set (set (set (set l at (w % 256)) (suc at) (w / 256 % 256)) (suc (suc at)) (w / 65536 % 256)) j (w / 16777216 % 256)) e3

-- ---- a loop that writes a list
pub record Storing (first : ℕ) (ws l₀ l : List ℕ) (i : ℕ) : Type 0 where
  pub room : (first + length ws) * 4 ≤ length l₀
  pub size : length l ≡ length l₀
  pub rest : sets l ((first + i) * 4) (bytes_of (drop i ws)) ≡ placed first ws l₀

pub store_start : (first : ℕ) (ws l : List ℕ) → (first + length ws) * 4 ≤ length l → Storing first ws l l 0
store_start first ws l h =
    let e : (first + 0) * 4 ≡ first * 4 = omega arith in
    record { room = h; size = refl; rest = ap (λ (n : ℕ). sets l n (bytes_of ws)) e ∙ sym (as_sets first ws l h) }

pub store_turn : {first : ℕ} {ws l₀ l l' : List ℕ} {i : ℕ} (w d : ℕ) → Storing first ws l₀ l i → i < length ws → w ≡ get_or ws i d → l' ≡ placed (first + i) (w ∷ []) l → Storing first ws l₀ l' (i + 1)
store_turn {first} {ws} {l₀} {l} {l'} {i} w d v h e p =
    let in-room : (first + i + 1) * 4 ≤ length l = omega (arith, v.room, v.size) in
    let n : (first + (i + 1)) * 4 ≡ suc (suc (suc (suc ((first + i) * 4)))) = omega arith in
    let j : i + 1 ≡ suc i = omega arith in
    let q : l' ≡ sets l ((first + i) * 4) (bytes_of_word w) = p ∙ as_sets (first + i) (w ∷ []) l in-room in
    record {
      room = v.room;
      size = ap length q ∙ length-sets l ((first + i) * 4) (bytes_of_word w) ∙ v.size;
      rest =
          ap₂ (λ (m : List ℕ) (k : ℕ). sets m k (bytes_of (drop (i + 1) ws))) q n
          ∙ ap (λ (k : ℕ). sets l ((first + i) * 4) (bytes_of_word w ++ bytes_of (drop k ws))) j
          ∙ ap (λ (x : ℕ). sets l ((first + i) * 4) (bytes_of (x ∷ drop (suc i) ws))) e
          ∙ ap (λ (r : List ℕ). sets l ((first + i) * 4) (bytes_of r)) (sym (drop-cons ws i d h))
          ∙ v.rest;
    }

pub store_end : {first : ℕ} {ws l₀ l : List ℕ} {i : ℕ} → Storing first ws l₀ l i → length ws ≤ i → l ≡ placed first ws l₀
store_end {first} {ws} {l₀} {l} {i} v h = ap (λ (r : List ℕ). sets l ((first + i) * 4) (bytes_of r)) (sym (drop_of_length-le ws {i = i} h)) ∙ v.rest

-- ---- the same of a list each of whose elements is written as a word, by the test of its room
module _ {A : Type 0} (word : A → ℕ) (first : ℕ) (xs : List A) (l₀ : List ℕ) where
  pub mapped_start : {room : Bool} → room ≡ leb ((first + length xs) * 4) (length l₀) → room ≡ true → Storing first (map word xs) l₀ l₀ 0
  mapped_start e t = store_start first (map word xs) l₀ (omega (arith, leb-true ((first + length xs) * 4) (length l₀) (sym e ∙ t), length-map xs word))

  pub mapped_none : {room : Bool} → room ≡ leb ((first + length xs) * 4) (length l₀) → room ≡ false → l₀ ≡ placed first (map word xs) l₀
  mapped_none e f = no_room first (map word xs) l₀ (omega (arith, leb-false ((first + length xs) * 4) (length l₀) (sym e ∙ f), length-map xs word))

  pub mapped_turn : {l l' : List ℕ} {i w : ℕ} {x : A} → Storing first (map word xs) l₀ l i → i < length xs → x ≡ get_or xs i x → w ≡ word x → l' ≡ placed (first + i) (w ∷ []) l → Storing first (map word xs) l₀ l' (i + 1)
  mapped_turn {i = i} {w} {x} v h is e p =
      store_turn w (word x) v (omega (arith, length-map xs word, h)) (e ∙ ap word is ∙ sym (get_or-map word xs i x)) p
