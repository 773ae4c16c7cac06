-- Steps of the functions that look at words and keep them. Assumes nothing.
use Rattle.std.specs.Prelude.{ℕ, suc, zero, ◌+◌, ◌<◌, ◌≤◌, List, ◌++◌, ◌≡◌, ℤ, drop, length, take}
use Rattle.feed_look.specs.Look.{look_of}
use Rattle.feed_look.specs.declared.Seen.{Seen}
use Rattle.feed_look.specs.declared.Seen.TheVariants.{Bad, Long, Waits, Whole}

-- the words of a line that is whole, else none
unfoldable pub whole_by : Seen → ℕ
whole_by Waits = 0
whole_by Bad = 0
whole_by Long = 0
whole_by (Whole n) = n

abbrev pub whole_at : List ℤ → ℕ → ℕ
whole_at sheet at = whole_by (look_of (drop at sheet))

-- so many whole lines stand from one place to another
unfoldable pub Lines : List ℤ → ℕ → ℕ → ℕ → Type 0
Lines sheet zero at end = at ≡ end
Lines sheet (suc n) at end = (0 < whole_at sheet at) × Lines sheet n (at + whole_at sheet at) end

-- and no more follow
pub record Counted (sheet : List ℤ) (at n end : ℕ) : Type 0 where
  pub lines : Lines sheet n at end
  pub inside : end ≤ length sheet
  pub few : n ≤ length sheet
  pub last : whole_at sheet end ≡ 0

-- `words` stand at a place of a list, `next` is the place behind them, and all else is as it was
pub record Put (words : List ℤ) (at next : ℕ) (before after : List ℤ) : Type 0 where
  pub behind : next ≡ at + length words
  pub there : after ≡ take at before ++ words ++ drop next before
