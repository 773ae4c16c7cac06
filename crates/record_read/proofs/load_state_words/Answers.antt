-- `record_read::load_state_words` meets its contract: the state's words, and over the first of them what the record keeps. Assumes nothing.
use mathlib.Core.Path.{◌∙◌, ◌≡◌, ap}
use Rattle.std.proofs.lemmas.List.{map-id}
use Rattle.graphics.specs.State.{fresh_state}
use Rattle.state_words.specs.Words.{state_words, written}
use Rattle.record_read.proofs.Editions.{all_fresh, has_room, lent, loaded}
use Rattle.record_read.proofs.load_state_words.Goals as goal
use Rattle.record_read.proofs.load_state_words.Goals.{After-write_state}

-- what was written first is the fresh state
filled : (c : After-write_state) → c.write_state.new.words ≡ state_words fresh_state
filled c = all_fresh c.args.words.now c.requires (c.write_state.ensures ∙ ap (λ s. written s c.args.words.now) c.fresh.ensures)

pub slice_bounds-load-end : goal.slice_bounds-load-end
slice_bounds-load-end c =
    has_room c.args.bytes.now _ c.kept_in.ensures c.wide-kept.ensures (filled (goal.at.slice_bounds-load-end c).After-write_state)

pub slice_bounds-load-end-2 : goal.slice_bounds-load-end-2
slice_bounds-load-end-2 c =
    lent c.args.bytes.now _ c.kept_in.ensures c.wide-kept.ensures (filled (goal.at.slice_bounds-load-end-2 c).After-write_state)

pub returns : goal.returns
returns c =
    loaded c.args.bytes.now _ c.kept_in.ensures c.wide-kept.ensures (filled (goal.at.returns c).After-write_state) (c.load.ensures ∙ map-id _)
