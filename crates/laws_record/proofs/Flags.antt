-- Flags of eight bits are within what a record may hold. Assumes nothing.
use mathlib.Core.Bool.{true}
use mathlib.Core.List.{List}
use mathlib.Core.Path.{◌≡◌, refl}
use Prim.Native.Nat.{ℕ}
use native.Mathlib.Omega.{arith}
use borrow.Author.Tests.{le-leb}
use Rattle.words.specs.Lists.{all_at_most}
use Rattle.words.proofs.Widths.{Below, no_word, one_word}
use Rattle.laws_record.proofs.Whence.{both}

pub flags_within : {ws : List ℕ} → Below 256 ws → all_at_most 255 ws ≡ true
flags_within no_word = refl
flags_within (one_word {w} h f) = both (le-leb w 255 (omega arith)) (flags_within f)
