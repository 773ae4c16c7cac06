-- `outline_steps::all_close` meets its contract: the library's test of each number. Assumes nothing.
use mathlib.Core.Bool.{Bool, ◌&&◌}
use mathlib.Core.List.{List, [], ◌∷◌}
use mathlib.Core.Path.{◌≡◌, ap, refl, ◌∙◌}
use borrow.Author.Rules.{rules}
use borrow.Author.Tests.{tests}
use lib.IntN.{ℤ}
use Rattle.std.proofs.lemmas.Iterator.{YieldsList-from_slice}
use Rattle.std.proofs.lemmas.Iterator.Search.{all_from_yields_List}
use Rattle.std.specs.List.{list_all}
use Rattle.outline_steps.specs.Outline.{all_close, is_close}
use Rattle.outline_steps.proofs.all_close.Goals as goal

each : (l : List ℤ) → list_all is_close l ≡ all_close l
unfolding all_close
each [] = refl
each (z ∷ l) = ap (λ (b : Bool). is_close z && b) (each l)

pub returns : goal.returns
returns c = let l = c.iter.result.rest.now in
    all_from_yields_List is_close _ _ c.all.result c.all.ensures.ran (YieldsList-from_slice l cc) (λ x b q k. search (rules, tests)) ∙ each l ∙ ap all_close c.iter.ensures.rest
