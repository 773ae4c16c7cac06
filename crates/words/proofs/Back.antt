-- Words written as bytes read back as written, and bytes read as words are written as read. Assumes nothing.
use Rattle.std.proofs.Common.{◌≡◌, ℕ, zero, suc, ◌+◌, ◌*◌, ◌/◌, ◌%◌, ◌^◌, ◌<◌, ◌≤◌, Bool, true, false, cond, leb, List, [], ◌∷◌, ◌++◌, map, length, get_or, sym, refl, ap, ◌∙◌, ap₂, arith, le-leb}
use Rattle.words.specs.Words.{joined, word_at}
use Rattle.words.specs.Lists.{bytes_of, bytes_of_word, part, word}
use Rattle.words.proofs.Storing.{leb_same}

-- every word fits its 32 bits, every byte its 8
pub data Words : List ℕ → Type 0 where
  none : Words []
  more : {w : ℕ} {ws : List ℕ} → w < 2 ^ 32 → Words ws → Words (w ∷ ws)

-- ---- one word
join_back : (w x y z : ℕ) → x ≡ w / 256 → y ≡ x / 256 → z ≡ y / 256 → z < 256 → joined (w % 256) (x % 256) (y % 256) (z % 256) ≡ w
join_back w x y z e f g h = omega arith

pub word_back : (w : ℕ) → w < 2 ^ 32 → joined (w % 256) (w / 256 % 256) (w / 65536 % 256) (w / 16777216 % 256) ≡ w
word_back w h =
    let e2 : w / 65536 ≡ w / 256 / 256 = omega arith in
    let e3 : w / 16777216 ≡ w / 256 / 256 / 256 = omega arith in
    let small : w / 256 / 256 / 256 < 256 = omega arith in
    join_back w (w / 256) (w / 65536) (w / 16777216) refl e2 (e3 ∙ ap (λ (n : ℕ). n / 256) (sym e2)) (omega (arith, e3, small))

-- four bytes further on
four_on : (a b c d : ℕ) (bytes : List ℕ) (k : ℕ) → word (a ∷ b ∷ c ∷ d ∷ bytes) (suc k) ≡ word bytes k
four_on a b c d bytes k =
    let e0 : suc k * 4 ≡ suc (suc (suc (suc (k * 4)))) = omega arith in
    let e1 : suc k * 4 + 1 ≡ suc (suc (suc (suc (k * 4 + 1)))) = omega arith in
    let e2 : suc k * 4 + 2 ≡ suc (suc (suc (suc (k * 4 + 2)))) = omega arith in
    let e3 : suc k * 4 + 3 ≡ suc (suc (suc (suc (k * 4 + 3)))) = omega arith in
    let at : List ℕ → ℕ → ℕ = λ (l : List ℕ) (j : ℕ). get_or l j 0 in
    let l : List ℕ = a ∷ b ∷ c ∷ d ∷ bytes in
    ap₂ (λ (t : Bool) (v : ℕ). cond t v 0)
    (leb_same (suc k * 4 + 4) (length l) (k * 4 + 4) (length bytes) (λ h. omega arith) (λ h. omega arith))
    (ap₂ (λ (x y : ℕ). joined x y (at l (suc k * 4 + 2)) (at l (suc k * 4 + 3))) (ap (at l) e0) (ap (at l) e1)
    ∙ ap₂ (λ (x y : ℕ). joined (at bytes (k * 4)) (at bytes (k * 4 + 1)) x y) (ap (at l) e2) (ap (at l) e3))

first_back : (w : ℕ) (ws : List ℕ) → w < 2 ^ 32 → word (bytes_of (w ∷ ws)) 0 ≡ w
first_back w ws h = rw (le-leb 4 (length (bytes_of (w ∷ ws))) (omega arith)) (word_back w h)

-- ---- a list of words, written and read
pub part_on : (a b c d : ℕ) (bytes : List ℕ) (first count : ℕ) → part (a ∷ b ∷ c ∷ d ∷ bytes) (suc first) count ≡ part bytes first count
part_on a b c d bytes first zero = refl
part_on a b c d bytes first (suc count) = ap₂ (λ (x : ℕ) (xs : List ℕ). x ∷ xs) (four_on a b c d bytes first) (part_on a b c d bytes (suc first) count)

-- what is written first reads back, whatever stands behind
pub front_back : (ws rest : List ℕ) → Words ws → part (bytes_of (ws ++ rest)) 0 (length ws) ≡ ws
front_back [] rest f = refl
front_back (w ∷ ws) rest (more h f) =
    ap₂ (λ (x : ℕ) (xs : List ℕ). x ∷ xs) (first_back w (ws ++ rest) h)
    (part_on (w % 256) (w / 256 % 256) (w / 65536 % 256) (w / 16777216 % 256) (bytes_of (ws ++ rest)) 0 (length ws) ∙ front_back ws rest f)

-- and so does a list within a record
pub part_back : (before ws rest : List ℕ) → Words ws → part (bytes_of (before ++ (ws ++ rest))) (length before) (length ws) ≡ ws
part_back [] ws rest f = front_back ws rest f
part_back (b ∷ before) ws rest f =
    part_on (b % 256) (b / 256 % 256) (b / 65536 % 256) (b / 16777216 % 256) (bytes_of (before ++ (ws ++ rest))) (length before) (length ws) ∙ part_back before ws rest f

-- ---- bytes, read and written
pub data Bytes : List ℕ → Type 0 where
  none : Bytes []
  more : {b : ℕ} {bs : List ℕ} → b < 256 → Bytes bs → Bytes (b ∷ bs)

byte_at : (bytes : List ℕ) (k : ℕ) → Bytes bytes → get_or bytes k 0 < 256
byte_at [] k f = omega arith
byte_at (b ∷ bytes) zero (more h f) = h
byte_at (b ∷ bytes) (suc k) (more h f) = byte_at bytes k f

joined_fits : (a b c d : ℕ) → a < 256 → b < 256 → c < 256 → d < 256 → joined a b c d < 2 ^ 32
joined_fits a b c d p q r s = omega arith

pub word_fits : (bytes : List ℕ) (k : ℕ) → Bytes bytes → word bytes k < 2 ^ 32
word_fits bytes k f =
    let j : joined (get_or bytes (k * 4) 0) (get_or bytes (k * 4 + 1) 0) (get_or bytes (k * 4 + 2) 0) (get_or bytes (k * 4 + 3) 0) < 2 ^ 32 =
    joined_fits (get_or bytes (k * 4) 0) (get_or bytes (k * 4 + 1) 0) (get_or bytes (k * 4 + 2) 0) (get_or bytes (k * 4 + 3) 0)
    (byte_at bytes (k * 4) f) (byte_at bytes (k * 4 + 1) f) (byte_at bytes (k * 4 + 2) f) (byte_at bytes (k * 4 + 3) f) in
    cond_below (leb (k * 4 + 4) (length bytes)) j
  where
    cond_below : (t : Bool) {n : ℕ} → n < 2 ^ 32 → cond t n 0 < 2 ^ 32
    cond_below true h = h
    cond_below false h = omega arith

pub part_fits : (bytes : List ℕ) (first count : ℕ) → Bytes bytes → Words (part bytes first count)
part_fits bytes first zero f = none
part_fits bytes first (suc count) f = more (word_fits bytes first f) (part_fits bytes (suc first) count f)

-- two lists of words that follow each other
pub part_join : (bytes : List ℕ) (first m n : ℕ) → part bytes first m ++ part bytes (first + m) n ≡ part bytes first (m + n)
part_join bytes first zero n =
    let a : first + 0 ≡ first = omega arith in
    let b : n ≡ 0 + n = omega arith in
    ap₂ (part bytes) a b
part_join bytes first (suc m) n =
    let a : first + suc m ≡ suc first + m = omega arith in
    let b : suc (m + n) ≡ suc m + n = omega arith in
    ap (λ (k : ℕ). word bytes first ∷ (part bytes (suc first) m ++ part bytes k n)) a
    ∙ ap (λ (xs : List ℕ). word bytes first ∷ xs) (part_join bytes (suc first) m n)
    ∙ ap (part bytes first) b

low_of : (x n all : ℕ) → x < 256 → all ≡ x + n * 256 → all % 256 ≡ x
low_of x n all h e = omega arith

byte_back : (a b c d : ℕ) → a < 256 → b < 256 → c < 256 → d < 256 → bytes_of_word (joined a b c d) ≡ a ∷ b ∷ c ∷ d ∷ []
byte_back a b c d p q r s =
    let e0 : joined a b c d % 256 ≡ a = low_of a (b + c * 256 + d * 65536) (joined a b c d) p (omega arith) in
    let q1 : joined a b c d / 256 ≡ b + c * 256 + d * 65536 = omega arith in
    let q2 : joined a b c d / 65536 ≡ c + d * 256 = omega arith in
    let q3 : joined a b c d / 16777216 ≡ d = omega arith in
    let m1 : (b + c * 256 + d * 65536) % 256 ≡ b = low_of b (c + d * 256) (b + c * 256 + d * 65536) q (omega arith) in
    let e1 : joined a b c d / 256 % 256 ≡ b = ap (λ (n : ℕ). n % 256) q1 ∙ m1 in
    let e2 : joined a b c d / 65536 % 256 ≡ c = ap (λ (n : ℕ). n % 256) q2 ∙ low_of c d (c + d * 256) r refl in
    let e3 : joined a b c d / 16777216 % 256 ≡ d = ap (λ (n : ℕ). n % 256) q3 ∙ low_of d 0 d s (omega arith) in
    ap₂ (λ (x y : ℕ). x ∷ y ∷ joined a b c d / 65536 % 256 ∷ joined a b c d / 16777216 % 256 ∷ []) e0 e1
    ∙ ap₂ (λ (x y : ℕ). a ∷ b ∷ x ∷ y ∷ []) e2 e3

-- bytes that are whole words are written as they were read
pub bytes_back : (bytes : List ℕ) (count : ℕ) → Bytes bytes → length bytes ≡ count * 4 → bytes_of (part bytes 0 count) ≡ bytes
bytes_back [] zero f e = refl
bytes_back [] (suc count) f e = absurd (omega arith)
bytes_back (a ∷ bytes) zero f e = absurd (omega arith)
bytes_back (a ∷ []) (suc count) f e = absurd (omega arith)
bytes_back (a ∷ b ∷ []) (suc count) f e = absurd (omega arith)
bytes_back (a ∷ b ∷ c ∷ []) (suc count) f e = absurd (omega arith)
bytes_back (a ∷ b ∷ c ∷ d ∷ bytes) (suc count) (more p (more q (more r (more s f)))) e =
    let first : word (a ∷ b ∷ c ∷ d ∷ bytes) 0 ≡ joined a b c d = rw (le-leb 4 (length (a ∷ b ∷ c ∷ d ∷ bytes)) (omega arith)) refl in
    ap₂ (λ (w : ℕ) (ws : List ℕ). bytes_of_word w ++ bytes_of ws) first (part_on a b c d bytes 0 count)
    ∙ ap₂ (λ (xs ys : List ℕ). xs ++ ys) (byte_back a b c d p q r s) (bytes_back bytes count f (omega arith))
