-- What is printed of a sheet that arrives by the block, fed to a record: document 02, K11, as a replay is printed (K4 and K5). Assumes nothing.
use Rattle.std.specs.Prelude.{ℕ, List, ◌++◌, ◌≡◌, drop, length}
use Rattle.rules.specs.declared.Rules.{Rules}
use Rattle.record_print.specs.Print.{blank, room, text_of}
use Rattle.feed_record.specs.Fed.{fed_record}

-- the answer, and the points of the record as it stands after the feed
unfoldable pub fed_print : Rules → List ℕ → List (List ℕ) → List ℕ
fed_print rules bytes blocks = text_of (fed_record rules room bytes blocks blank)

-- so much of a text is printed, for some blocks: those that were read
pub record FedPrint (rules : Rules) (bytes before : List ℕ) (n : ℕ) (after : List ℕ) : Type 0 where
  pub blocks : List (List ℕ)
  pub size_is : n ≡ length (fed_print rules bytes blocks)
  pub text_is : after ≡ fed_print rules bytes blocks ++ drop n before
