-- `record_write::store_state` meets its contract. Assumes nothing.
use mathlib.Core.Path.{refl, ap, ◌∙◌}
use mathlib.Core.List.{List}
use Prim.Native.Nat.{ℕ}
use Rattle.state_words.specs.Words.{written}
use Rattle.words.specs.Lists.{placed}
use Rattle.record_write.proofs.Steps.{stored_as_is}
use Rattle.record_write.proofs.store_state.Goals as goal

pub returns : goal.returns
unfolding written
returns c =
    stored_as_is _ refl c.store.ensures refl ∙ ap (λ (ws : List ℕ). placed 0 ws c.args.out.now) c.write_state.ensures
