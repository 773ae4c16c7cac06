-- The bytes of a case are as many as were made, whatever their number.
use Rattle.std.proofs.Common.{ℕ, ◌*◌, sym}
use Rattle.std.proofs.lemmas.List.{length-replicate}
use Rattle.limits.specs.Limits.{most_words}
use Rattle.vectors_cases.proofs.main.Goals as goal

pub slice_bounds-replay_all-end : goal.slice_bounds-replay_all-end
slice_bounds-replay_all-end c = sym (length-replicate {A = ℕ} (most_words * 8) 0)
