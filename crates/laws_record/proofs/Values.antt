-- Words read as numbers, flags and ends, and written again. Assumes nothing.
use mathlib.Core.Bool.{true}
use mathlib.Core.List.{List, [], ◌∷◌}
use mathlib.Core.Path.{◌≡◌, ap₂, refl}
use Prim.Native.Nat.{◌%◌, ◌<◌, ◌≤◌, ◌^◌, suc, zero, ℕ}
use native.Mathlib.Omega.{arith}
use borrow.Author.Tests.{leb-true}
use mir.Facts.{of_z-to_z}
use mir.Syntax.{w32}
use lib.Dec.{leb}
use lib.ListN.{get_or}
use Rattle.state_words.proofs.Back.{cons}
use Rattle.graphics.proofs.Laws.{and_left, and_right}
use Rattle.int.specs.Word.{bits_of, of_bits}
use Rattle.words.specs.Lists.{all_at_most, ends_of, flags_of, numbers_of, words_of_numbers}
use Rattle.words.proofs.Back.{Words}
use Rattle.words.proofs.Back.Words.{more}

pub words_at : (ws : List ℕ) (k : ℕ) → Words ws → get_or ws k 0 < 2 ^ 32
words_at [] k f = omega arith
words_at (w ∷ ws) zero (more h f) = h
words_at (w ∷ ws) (suc k) (more h f) = words_at ws k f

word_written : (w : ℕ) → w < 2 ^ 32 → bits_of (of_bits w) ≡ w
word_written w h = of_z-to_z {w = w32} (record { fits = h })

pub numbers_back : (ws : List ℕ) → Words ws → words_of_numbers (numbers_of ws) ≡ ws
numbers_back [] f = refl
numbers_back (w ∷ ws) (more h f) = cons (word_written w h) (numbers_back ws f)

flag_back : (w : ℕ) → w ≤ 255 → w % 256 ≡ w
flag_back w h = omega arith

end_back : (w : ℕ) → w ≤ 65535 → w % 65536 ≡ w
end_back w h = omega arith

pub flags_back : (ws : List ℕ) → all_at_most 255 ws ≡ true → flags_of ws ≡ ws
flags_back [] e = refl
flags_back (w ∷ ws) e = cons (flag_back w (leb-true w 255 (and_left _ (all_at_most 255 ws) e))) (flags_back ws (and_right (leb w 255) _ e))

pub ends_back : (ws : List ℕ) → all_at_most 65535 ws ≡ true → ends_of ws ≡ ws
ends_back [] e = refl
ends_back (w ∷ ws) e = cons (end_back w (leb-true w 65535 (and_left _ (all_at_most 65535 ws) e))) (ends_back ws (and_right (leb w 65535) _ e))
