-- `feed_calls::say_fed` meets its contract: by what the three calls ensure. Assumes nothing.
use mathlib.Core.Path.{◌∙◌, ap₂}
use Prim.Native.Nat.{ℕ}
use Rattle.feed_calls.specs.Feed.{fed_words}
use Rattle.feed_calls.proofs.say_fed.Goals as goal

pub returns : goal.returns
returns c = let a = c.args in record { value = c.number-number.ensures; numbers_after = ◌∙◌ {b = fed_words c.number-number.result a.fed.base a.fed.lines c.detail.result a.fed.held a.numbers.now} c.write_feed.ensures (ap₂ (λ (k l : ℕ). fed_words k a.fed.base a.fed.lines l a.fed.held a.numbers.now) c.number-number.ensures c.detail.ensures) }
