-- `state_words::all_at_most` meets its contract: the library's test of each word. Assumes nothing.
use mathlib.Core.Bool.{Bool, ◌&&◌}
use mathlib.Core.List.{List, [], ◌∷◌}
use mathlib.Core.Path.{◌≡◌, ap, refl, ◌∙◌}
use Prim.Native.Nat.{ℕ}
use lib.Dec.{leb}
use borrow.Author.Rules.{rules}
use borrow.Author.Tests.{tests}
use Rattle.std.proofs.lemmas.Iterator.{YieldsList-from_slice}
use Rattle.std.proofs.lemmas.Iterator.Search.{all_from_yields_List}
use Rattle.std.specs.List.{list_all}
use Rattle.words.specs.Lists.{all_at_most}
use Rattle.state_words.proofs.all_at_most.Goals as goal

each : (most : ℕ) (ws : List ℕ) → list_all (λ w. leb w most) ws ≡ all_at_most most ws
each most [] = refl
each most (w ∷ ws) = ap (λ (b : Bool). leb w most && b) (each most ws)

pub returns : goal.returns
returns c = let a = c.args in
    all_from_yields_List (λ w. leb w a.most) _ _ c.all.result c.all.ensures.ran (YieldsList-from_slice a.words.now cc) (λ x b q k. search (rules, tests))
    ∙ each a.most a.words.now
