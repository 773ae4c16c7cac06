-- Steps of the functions that keep words and bring them together. Assumes nothing.
use Rattle.std.specs.Prelude.{ℕ, ◌+◌, ◌≤◌, List, ◌++◌, ◌⊎◌, ◌≡◌, ℤ, drop, length, take}
use Rattle.answer.specs.declared.Refusal.TheVariants.{Line}
use Rattle.graphics.specs.declared.GraphicsState.{GraphicsState}
use Rattle.feed_look.specs.Look.{look_of, most_line}
use Rattle.feed_look.specs.Steps.{whole_by}
use Rattle.feed_look.specs.declared.Seen.{Seen}
use Rattle.feed_look.specs.declared.Seen.TheVariants.{Bad, Waits, Whole}
use Rattle.feed_look.specs.declared.Seen.TheVariants.{Long as LongLine}
use Rattle.feed_carry.specs.declared.Fed.{Fed}
use Rattle.feed_carry.specs.declared.Begins.{Begins}
use Rattle.feed_carry.specs.declared.Begins.TheVariants.{Run, Settled}
use Rattle.feed_carry.specs.declared.Said.{Said}
use Rattle.feed_carry.specs.declared.Said.TheVariants.{Long, Open, Refused}

abbrev pub fed : Said → ℕ → ℕ → ℕ → GraphicsState → Fed
fed said base held lines s = record { said = said; base = base; held = held; lines = lines; state = s }

-- what is handed back, and the carry
pub record Kept : Type 0 where
  pub fed : Fed
  pub carry : List ℤ

abbrev pub kept : Fed → List ℤ → Kept
kept c carry = record { fed = c; carry = carry }

-- words that no whole line begins, as they were seen: they wait behind what the carry holds, or the feed ends
unfoldable pub rest_by : ℕ → ℕ → ℕ → GraphicsState → List ℤ → List ℤ → Seen → Kept
rest_by base held lines s words carry Waits = kept (fed Open base (held + length words) lines s) (take held carry ++ words ++ drop (held + length words) carry)
rest_by base held lines s words carry Bad = kept (fed (Refused Line) base 0 lines s) carry
rest_by base held lines s words carry LongLine = kept (fed Long base 0 lines s) carry
rest_by base held lines s words carry (Whole n) = kept (fed Open base 0 lines s) carry

-- what is begun with: the feed is settled without a line, or the line that waited is whole, with its words from the front of `line` on
unfoldable pub FirstIs : Fed → List ℤ → List ℤ → List ℤ → List ℤ → Begins → Type 0
FirstIs c words carry carry' line (Settled d) =
    (kept d carry' ≡ rest_by c.base c.held 0 c.state words carry (look_of (take c.held carry ++ words)))
    × (whole_by (look_of (take c.held carry ++ words)) ≡ 0)
FirstIs c words carry carry' line (Run k) =
    (carry' ≡ carry)
    × (take k line ≡ take k (take c.held carry ++ words))
    × (c.held ≤ k)
    × (k ≤ c.held + length words)
    × (k ≤ most_line)
    × ((k ≡ 0) ⊎ (look_of (take c.held carry ++ words) ≡ Whole k))
