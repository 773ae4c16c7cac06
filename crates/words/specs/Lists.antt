-- Lists of little-endian 32-bit words in a list of bytes: document 02, K4: "All is little-endian 32-bit words." Assumes nothing.
use Rattle.std.specs.Prelude.{ℕ, zero, suc, ◌+◌, ◌*◌, ◌/◌, ◌%◌, ◌^◌, Bool, true, cond, ◌&&◌, List, [], ◌∷◌, ◌++◌, map, length, take, drop, ℤ, nat_le}
use Rattle.int.specs.Word.{bits_of, of_bits}
use Rattle.words.specs.Words.{word_at}

-- ---- reading
-- word k; 0 where it is not whole
abbrev pub word : List ℕ → ℕ → ℕ
word bytes k = word_at bytes (k * 4)

-- so many words, from word `first`
abbrev pub part : List ℕ → ℕ → ℕ → List ℕ
part bytes first zero = []
part bytes first (suc count) = word bytes first ∷ part bytes (suc first) count

-- the signed numbers that words stand for
abbrev pub numbers_of : List ℕ → List ℤ
numbers_of ws = map of_bits ws

-- a flag is the low byte of its word, and a contour's end the low half
abbrev pub flag_of : ℕ → ℕ
flag_of w = w % 256

abbrev pub end_of : ℕ → ℕ
end_of w = w % 65536

abbrev pub flags_of : List ℕ → List ℕ
flags_of ws = map flag_of ws

abbrev pub ends_of : List ℕ → List ℕ
ends_of ws = map end_of ws

-- ---- tests
abbrev pub all_at_most : ℕ → List ℕ → Bool
all_at_most most [] = true
all_at_most most (w ∷ ws) = nat_le w most && all_at_most most ws

abbrev pub sum_of : List ℕ → ℕ
sum_of [] = 0
sum_of (w ∷ ws) = w + sum_of ws

-- "the wrapping sum"
abbrev pub wrapping_sum : List ℕ → ℕ
wrapping_sum ws = sum_of ws % 2 ^ 32

-- ---- writing
-- the four bytes of a word, lowest first
abbrev pub bytes_of_word : ℕ → List ℕ
bytes_of_word w = w % 256 ∷ w / 256 % 256 ∷ w / 65536 % 256 ∷ w / 16777216 % 256 ∷ []

abbrev pub bytes_of : List ℕ → List ℕ
bytes_of [] = []
bytes_of (w ∷ ws) = bytes_of_word w ++ bytes_of ws

abbrev pub words_of_numbers : List ℤ → List ℕ
words_of_numbers zs = map bits_of zs

-- bytes with words written over them from word `first` on; as they were where there is no room for all of these
unfoldable pub placed : ℕ → List ℕ → List ℕ → List ℕ
placed first ws bytes =
    cond (nat_le ((first + length ws) * 4) (length bytes))
    (take (first * 4) bytes ++ bytes_of ws ++ drop ((first + length ws) * 4) bytes)
    bytes
