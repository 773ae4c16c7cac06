-- The words of a block's first bytes, and a block behind bytes that were there. Assumes nothing.
use mathlib.Core.List.{List, ◌++◌}
use mathlib.Core.Path.{◌∙◌, ◌≡◌, ap, sym}
use Prim.Native.Nat.{◌*◌, ◌+◌, ◌-◌, ◌/◌, ◌%◌, ◌≤◌, ℕ}
use native.Mathlib.Omega.{arith}
use lib.IntN.{ℤ}
use lib.ListN.{drop, length, take, take-append-drop}
use lib.Seq.{drop_at, length-take-le, take-add, take_at}
use Rattle.int.specs.Word.{of_bits}
use Rattle.words.specs.Lists.{numbers_of, part}
use Rattle.words.proofs.Parts.{mapped_length}
use Rattle.feed_blocks.specs.Blocks.{Came, begun_in, words_in}

-- ---- the words of a block's first bytes
drop_front : {A : Type 0} (k n : ℕ) (l : List A) → k ≤ n → n ≤ length l → drop k (take n l) ≡ take (n - k) (drop k l)
drop_front k n l h g =
    let e : n ≡ k + (n - k) = omega (arith, h) in
    ap (λ (m : ℕ). drop k (take m l)) e ∙ ap (drop k) (take-add k (n - k) l) ∙ drop_at (take k l) (take (n - k) (drop k l)) k (length-take-le k l (omega (arith, h, g)))

module _ (block : List ℕ) (size : ℕ) (h : size ≤ length block) where
  size_is : length (take size block) ≡ size
  size_is = length-take-le size block h

  pub loaded : (z ws tail : List ℤ) → size / 4 ≤ length z → ws ≡ numbers_of (part (take size block) 0 (length (take (size / 4) z))) → take (size / 4) (ws ++ tail) ≡ words_in (take size block)
  loaded z ws tail g e =
      let n : length (take (size / 4) z) ≡ size / 4 = length-take-le (size / 4) z g in
      let m : length ws ≡ size / 4 = ap length e ∙ mapped_length of_bits (take size block) 0 (length (take (size / 4) z)) ∙ n in
      take_at ws tail (size / 4) m
      ∙ e
      ∙ ap (λ (k : ℕ). numbers_of (part (take size block) 0 k)) (n ∙ ap (λ (k : ℕ). k / 4) (sym size_is))

  pub brought : (after : List ℕ) → take (size % 4) after ≡ take (size % 4) (drop (size / 4 * 4) block) → take (size % 4) after ≡ begun_in (take size block)
  brought after e =
      let rest : size % 4 ≡ size - size / 4 * 4 = omega arith in
      e
      ∙ ap (λ (k : ℕ). take k (drop (size / 4 * 4) block)) rest
      ∙ sym (drop_front (size / 4 * 4) size block (omega arith) h)
      ∙ ap (λ (k : ℕ). drop (k / 4 * 4) (take size block)) (sym size_is)

-- ---- a block behind the bytes of a word that was begun
pub came : (n : ℕ) (all : List ℕ) {begun begun' : List ℕ} {words : List ℤ} → begun ≡ take n all → words ≡ words_in all → begun' ≡ begun_in all → Came begun words begun'
came n all {begun} {begun'} {words} e p q =
    let whole : begun ++ drop n all ≡ all = ap (λ (l : List ℕ). l ++ drop n all) e ∙ take-append-drop n all in
    record { block = drop n all; words_are = p ∙ ap words_in (sym whole); begun_are = q ∙ ap begun_in (sym whole) }
