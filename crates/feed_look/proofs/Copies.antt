-- A loop that copies words: so many of them stand there. Assumes nothing.
use mathlib.Core.List.{List, ◌++◌}
use mathlib.Core.Path.{◌∙◌, ◌≡◌, ap, refl}
use Prim.Native.Nat.{◌+◌, ◌<◌, ◌≤◌, suc, ℕ}
use native.Mathlib.Omega.{arith}
use lib.IntN.{pos, ℤ}
use lib.ListN.{drop, get_or, length, length-set, set, take}
use lib.Seq.{paste, paste-suc, paste-zero, take-length}
use Rattle.feed_look.specs.Steps.{Put}

pub record Copying (words before : List ℤ) (at : ℕ) (after : List ℤ) (i : ℕ) : Type 0 where
  pub room : at + length words ≤ length before
  pub within : i ≤ length words
  pub size : length after ≡ length before
  pub done : after ≡ paste before at words i

pub copy_start : (words before : List ℤ) (at : ℕ) → at + length words ≤ length before → Copying words before at before 0
copy_start words before at h = record { room = h; within = omega arith; size = refl; done = paste-zero before at words }

pub copy_turn : {words before after : List ℤ} {at i : ℕ} → Copying words before at after i → i < length words
    → Copying words before at (set after (at + i) (get_or words i (pos 0))) (i + 1)
copy_turn {words} {before} {after} {at} {i} v h =
    let n : suc i ≡ i + 1 = omega arith in
    record {
      room = v.room;
      within = omega (arith, h);
      size = length-set after (at + i) (get_or words i (pos 0)) ∙ v.size;
      done =
          ap (λ (l : List ℤ). set l (at + i) (get_or words i (pos 0))) v.done
          ∙ paste-suc before at words i (pos 0) (omega (arith, v.room, h)) h
          ∙ ap (paste before at words) n;
    }

pub copy_end : {words before after : List ℤ} {at i : ℕ} → Copying words before at after i → length words ≤ i → Put words at (at + i) before after
copy_end {words} {before} {after} {at} {i} v h =
    let e : i ≡ length words = omega (arith, v.within, h) in
    record {
      behind = ap (λ (k : ℕ). at + k) e;
      there = v.done ∙ ap (λ (p : List ℤ). take at before ++ p ++ drop (at + i) before) (ap (λ (k : ℕ). take k words) e ∙ take-length words);
    }
