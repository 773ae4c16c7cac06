-- Words that were written sum up as they did before: a word is written modulo 2^32, and so is the sum. Assumes nothing.
use Rattle.std.proofs.Common.{◌≡◌, ℕ, ◌+◌, ◌*◌, ◌/◌, ◌%◌, ◌^◌, ◌<◌, List, [], ◌∷◌, ◌++◌, length, sym, refl, ap, ◌∙◌, arith, le-leb}
use Rattle.words.specs.Words.{joined}
use Rattle.words.specs.Lists.{bytes_of, part, sum_of, word, wrapping_sum}
use Rattle.words.proofs.Back.{part_on}

joined_low : (w x y z u : ℕ) → x ≡ w / 256 → y ≡ x / 256 → z ≡ y / 256 → u ≡ z / 256 → joined (w % 256) (x % 256) (y % 256) (z % 256) + u * 2 ^ 32 ≡ w
joined_low w x y z u e f g h = omega arith

low_of : (j u w : ℕ) → j < 2 ^ 32 → j + u * 2 ^ 32 ≡ w → j ≡ w % 2 ^ 32
low_of j u w h e = omega arith

below : (a b c d : ℕ) → joined (a % 256) (b % 256) (c % 256) (d % 256) < 2 ^ 32
below a b c d = omega arith

-- a word is written modulo 2^32
word_low : (w : ℕ) → joined (w % 256) (w / 256 % 256) (w / 65536 % 256) (w / 16777216 % 256) ≡ w % 2 ^ 32
word_low w =
    let y : w / 65536 ≡ w / 256 / 256 = omega arith in
    let z : w / 16777216 ≡ w / 65536 / 256 = omega arith in
    low_of _ (w / 16777216 / 256) w (below w (w / 256) (w / 65536) (w / 16777216)) (joined_low w (w / 256) (w / 65536) (w / 16777216) (w / 16777216 / 256) refl y z refl)

first_low : (w : ℕ) (ws rest : List ℕ) → word (bytes_of (w ∷ ws) ++ rest) 0 ≡ w % 2 ^ 32
first_low w ws rest = rw (le-leb 4 (length (bytes_of (w ∷ ws) ++ rest)) (omega arith)) (word_low w)

plus_low : (a w s t : ℕ) → a ≡ w % 2 ^ 32 → s % 2 ^ 32 ≡ t % 2 ^ 32 → (a + s) % 2 ^ 32 ≡ (w + t) % 2 ^ 32
plus_low a w s t e f = omega arith

-- whatever stands behind them
pub written_sum : (ws rest : List ℕ) → wrapping_sum (part (bytes_of ws ++ rest) 0 (length ws)) ≡ wrapping_sum ws
written_sum [] rest = refl
written_sum (w ∷ ws) rest =
    plus_low (word (bytes_of (w ∷ ws) ++ rest) 0) w (sum_of (part (bytes_of (w ∷ ws) ++ rest) 1 (length ws))) (sum_of ws)
    (first_low w ws rest)
    (ap wrapping_sum (part_on (w % 256) (w / 256 % 256) (w / 65536 % 256) (w / 16777216 % 256) (bytes_of ws ++ rest) 0 (length ws)) ∙ written_sum ws rest)
