-- The sheet limit: the piece that passes it isn't taken. Assumes nothing.
use mathlib.Core.Bool.{true}
use mathlib.Core.List.{List}
use mathlib.Core.Path.{◌≡◌}
use Prim.Native.Nat.{◌+◌, ◌<◌}
use lib.IntN.{ℤ}
use lib.ListN.{length}
use Rattle.answer.specs.declared.Refusal.TheVariants.{Sizes}
use Rattle.feed.specs.Feed.{feed_of}
use Rattle.feed_carry.specs.Carry.{said_is_open}
use Rattle.feed_carry.specs.declared.Fed.{Fed}
use Rattle.feed_carry.specs.declared.Said.TheVariants.{Refused}
use Rattle.limits.specs.Limits.{most_words}
use Rattle.line.specs.World.{Fixed, World}
use Rattle.laws_feed.proofs.Calls.{no_room, not_taken, stopped}

module _ (f : Fixed) (c : Fed) (carry words : List ℤ) (w : World) (o : said_is_open c.said ≡ true) where
  pub limit : most_words < c.base + c.held + length words → feed_of f c carry words w ≡ stopped (Refused Sizes) c carry w
  limit h = not_taken f c carry words w o (no_room c.base c.held (length words) carry h)
