-- Lists that are written one behind the other are one list written: what a writer that stores list by list leaves. Assumes nothing.
use mathlib.Core.Bool.{Bool, cond, false, true}
use mathlib.Core.List.{List, [], ◌++◌, ◌∷◌}
use mathlib.Core.Path.{◌∙◌, ◌≡◌, ap, ap₂, refl, sym}
use Prim.Native.Nat.{◌*◌, ◌+◌, ◌≤◌, suc, ℕ}
use native.Mathlib.Omega.{arith}
use borrow.Author.Tests.{le-leb, leb-false, leb-true}
use lib.Dec.{leb}
use lib.ListN.{drop, length, length-append, set, take}
use lib.Seq.{sets}
use Rattle.words.specs.Lists.{bytes_of, bytes_of_word, placed}
use Rattle.words.proofs.Storing.{as_sets, bytes_length, no_room, placed_length}

sets_join : (l : List ℕ) (i : ℕ) (us vs : List ℕ) → sets (sets l i us) (i + length us) vs ≡ sets l i (us ++ vs)
sets_join l i [] vs = let e : i + 0 ≡ i = omega arith in ap (λ (k : ℕ). sets l k vs) e
sets_join l i (u ∷ us) vs =
    let e : i + suc (length us) ≡ suc i + length us = omega arith in
    ap (λ (k : ℕ). sets (sets (set l i u) (suc i) us) k vs) e ∙ sets_join (set l i u) (suc i) us vs

bytes_join : (us vs : List ℕ) → bytes_of us ++ bytes_of vs ≡ bytes_of (us ++ vs)
bytes_join [] vs = refl
bytes_join (u ∷ us) vs = ap (λ (l : List ℕ). bytes_of_word u ++ l) (bytes_join us vs)

-- a list behind a list
pub placed_join : (first : ℕ) (us vs l : List ℕ) → (first + length us + length vs) * 4 ≤ length l → placed (first + length us) vs (placed first us l) ≡ placed first (us ++ vs) l
placed_join first us vs l h =
    let roomy : (first + length us) * 4 ≤ length l = omega arith in
    let e : (first + length us) * 4 ≡ first * 4 + length (bytes_of us) = omega (arith, bytes_length us) in
    let all : (first + length (us ++ vs)) * 4 ≤ length l = omega (arith, length-append us vs) in
    as_sets (first + length us) vs (placed first us l) (omega (arith, placed_length first us l roomy))
    ∙ ap₂ (λ (m : List ℕ) (k : ℕ). sets m k (bytes_of vs)) (as_sets first us l roomy) e
    ∙ sets_join l (first * 4) (bytes_of us) (bytes_of vs)
    ∙ ap (sets l (first * 4)) (bytes_join us vs)
    ∙ sym (as_sets first (us ++ vs) l all)

-- bytes keep their number, with room or without
pub placed_size : (first : ℕ) (ws l : List ℕ) → length (placed first ws l) ≡ length l
placed_size first ws l = by_room (leb ((first + length ws) * 4) (length l)) refl
  where
    by_room : (t : Bool) → leb ((first + length ws) * 4) (length l) ≡ t → length (placed first ws l) ≡ length l
    by_room true e = placed_length first ws l (leb-true ((first + length ws) * 4) (length l) e)
    by_room false e = ap length (sym (no_room first ws l (leb-false ((first + length ws) * 4) (length l) e)))

-- words from the first on, over the front of the bytes
pub placed_front : (ws l : List ℕ) → (0 + length ws) * 4 ≤ length l → placed 0 ws l ≡ bytes_of ws ++ drop ((0 + length ws) * 4) l
unfolding placed
placed_front ws l h = ap (λ (t : Bool). cond t (take (0 * 4) l ++ bytes_of ws ++ drop ((0 + length ws) * 4) l) l) (le-leb ((0 + length ws) * 4) (length l) h)
