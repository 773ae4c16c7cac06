-- Where words lie in bytes: a list that lies somewhere, lies there part by part. Assumes nothing.
use mathlib.Core.List.{List, [], ◌++◌, ◌∷◌, append-nil}
use mathlib.Core.Path.{◌∙◌, ◌≡◌, ap, ap₂, refl, sym}
use Prim.Native.Nat.{◌+◌, ◌<◌, ◌^◌, suc, ℕ}
use native.Mathlib.Omega.{arith}
use lib.ListN.{drop, get_or, length, length-map}
use lib.IntN.{ℤ}
use mir.Facts.{Fits-of_z, to_z-of_z}
use Rattle.state_words.proofs.Back.{cons}
use Rattle.int.specs.Word.{bits_of}
use Rattle.words.specs.Lists.{bytes_of, ends_of, flags_of, numbers_of, part, words_of_numbers}
use Rattle.words.proofs.Back.{Words, front_back}
use Rattle.words.proofs.Back.Words.{more, none}
use Rattle.words.proofs.Widths.{Below, Numbers, no_word, one_word}

abbrev pub Lies : List ℕ → ℕ → List ℕ → Type 0
Lies bytes first ws = part bytes first (length ws) ≡ ws

module _ (bytes : List ℕ) where
  pub lies_left : (first : ℕ) (xs ys : List ℕ) → Lies bytes first (xs ++ ys) → Lies bytes first xs
  lies_left first [] ys e = refl
  lies_left first (x ∷ xs) ys e = cons (ap (λ (l : List ℕ). get_or l 0 0) e) (lies_left (suc first) xs ys (ap (drop 1) e))

  pub lies_right : (first : ℕ) (xs ys : List ℕ) → Lies bytes first (xs ++ ys) → Lies bytes (first + length xs) ys
  lies_right first [] ys e = let a : first + 0 ≡ first = omega arith in ap (λ (k : ℕ). part bytes k (length ys)) a ∙ e
  lies_right first (x ∷ xs) ys e =
      let a : first + suc (length xs) ≡ suc first + length xs = omega arith in
      ap (λ (k : ℕ). part bytes k (length ys)) a ∙ lies_right (suc first) xs ys (ap (drop 1) e)

  -- the same place and length by other names
  pub lies_at : {first : ℕ} (ws : List ℕ) (p n : ℕ) → p ≡ first → n ≡ length ws → Lies bytes first ws → part bytes p n ≡ ws
  lies_at ws p n e g h = ap₂ (part bytes) e g ∙ h

pub lies_all : (ws : List ℕ) → Words ws → Lies (bytes_of ws) 0 ws
lies_all ws f = ap (λ (l : List ℕ). part (bytes_of l) 0 (length ws)) (sym (append-nil ws)) ∙ front_back ws [] f

-- ---- words that fit
pub words_join : {xs ys : List ℕ} → Words xs → Words ys → Words (xs ++ ys)
words_join none g = g
words_join (more h f) g = more h (words_join f g)

pub number_words : {zs : List ℤ} → Numbers zs → Words (words_of_numbers zs)
number_words no_word = none
number_words (one_word h f) = more (Fits-of_z h).fits (number_words f)

pub numbers_read : {zs : List ℤ} → Numbers zs → numbers_of (words_of_numbers zs) ≡ zs
numbers_read no_word = refl
numbers_read (one_word h f) = ap₂ (λ (x : ℤ) (xs : List ℤ). x ∷ xs) (to_z-of_z h) (numbers_read f)

byte_word : {w : ℕ} → w < 256 → w < 2 ^ 32
byte_word h = omega arith

half_word : {w : ℕ} → w < 65536 → w < 2 ^ 32
half_word h = omega arith

pub flag_words : {ws : List ℕ} → Below 256 ws → Words ws
flag_words no_word = none
flag_words (one_word h f) = more (byte_word h) (flag_words f)

pub end_words : {ws : List ℕ} → Below 65536 ws → Words ws
end_words no_word = none
end_words (one_word h f) = more (half_word h) (end_words f)

pub flags_read : {ws : List ℕ} → Below 256 ws → flags_of ws ≡ ws
flags_read no_word = refl
flags_read (one_word h f) = cons (omega arith) (flags_read f)

pub ends_read : {ws : List ℕ} → Below 65536 ws → ends_of ws ≡ ws
ends_read no_word = refl
ends_read (one_word h f) = cons (omega arith) (ends_read f)

pub number_count : (zs : List ℤ) → length (words_of_numbers zs) ≡ length zs
number_count zs = length-map zs bits_of
