-- `feed_calls::fed_of` meets its contract: by what it reads of the words. Assumes nothing.
use mathlib.Core.Path.{◌∙◌, ap}
use Prim.Native.Nat.{ℕ}
use Rattle.feed_carry.specs.Steps.{fed}
use Rattle.feed_carry.specs.declared.Said.TheVariants.{Open}
use Rattle.feed_calls.specs.Feed.{kept}
use Rattle.feed_calls.proofs.fed_of.Goals as goal

pub returns : goal.returns
returns c = let a = c.args in let feed = a.numbers.now in
    ap (λ (n : ℕ). fed Open n c.kept_word-2.result c.kept_word-3.result a.s) c.kept_word.ensures
    ∙ ap (λ (n : ℕ). fed Open (kept feed 1) n c.kept_word-3.result a.s) c.kept_word-2.ensures
    ∙ ap (λ (n : ℕ). fed Open (kept feed 1) (kept feed 4) n a.s) c.kept_word-3.ensures
