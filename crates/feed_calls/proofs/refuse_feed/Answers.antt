-- `feed_calls::refuse_feed` meets its contract. Assumes nothing.
use mathlib.Core.Path.{◌∙◌, ap, refl}
use Prim.Native.Nat.{ℕ}
use Rattle.feed_calls.specs.Left.{bad_word}
use Rattle.feed_calls.specs.Feed.{fed_words}
use Rattle.feed_calls.proofs.refuse_feed.Goals as goal

pub returns : goal.returns
returns c = record { value = refl; numbers_after = c.write_feed.ensures ∙ ap (λ (place : ℕ). fed_words bad_word place 0 0 0 c.args.numbers.now) c.kept_word-place.ensures }
