-- A feed to a record by its parts: the lists that were loaded, and the verdict on the bytes. Assumes nothing.
use Rattle.std.specs.Prelude.{Ok, Err}
use mathlib.Core.List.{List, []}
use mathlib.Core.Path.{◌∙◌, ◌≡◌, ap, ap₂, sym}
use Prim.Native.Nat.{ℕ}
use lib.IntN.{ℤ}
use Rattle.rules.specs.declared.Rules.{Rules}
use Rattle.line.specs.World.{Fixed, World}
use Rattle.state_words.specs.Words.{state_size}
use Rattle.record_layout.specs.declared.Layout.{Layout}
use Rattle.record_read.proofs.Whole.{layout_kept}
use Rattle.record_read.specs.Format.{Held, held, layout}
use Rattle.record_read.specs.Read.{damage_number, held_in, open_of, read_as}
use Rattle.record_read.specs.declared.Damage.{Damage}
use Rattle.record_run.specs.After.{Shelved, shelved}
use Rattle.record_run.specs.declared.Replayed.{Replayed}
use Rattle.record_replay.specs.Shelf.{refused_as}
use Rattle.feed_arriving.specs.Arriving.{FedShelf, fed_shelf}
use Rattle.feed_record.specs.Fed.{FedRecord, fed_on_read, fed_record, no_words}
use Rattle.feed_record.specs.Steps.{bare}

-- ---- the lists that were loaded
pub same_feed : {rules : Rules} {most : ℕ} {l l' : Layout} {h h' : Held} {carry : List ℤ} {out : List ℕ} {x : Shelved}
    → l ≡ l' → h ≡ h' → FedShelf rules most l h carry out x → FedShelf rules most l' h' carry out x
same_feed {rules} {most} {l} {l'} {h} {h'} {carry} {out} p q v =
    record { blocks = v.blocks; is = v.is ∙ ap₂ (λ (l : Layout) (h : Held). fed_shelf rules most l h carry v.blocks out) p q }

pub same_held : {f f' : Fixed} {sheet sheet' : List ℤ} {w w' : World} → f ≡ f' → sheet ≡ sheet' → w ≡ w' → held f sheet w ≡ held f' sheet' w'
same_held a b c = cc

-- ---- the verdict
module _ (rules : Rules) (most : ℕ) (bytes out : List ℕ) where
  pub damaged : (why : Damage) {r : Replayed} → open_of bytes ≡ Err why → r ≡ refused_as (damage_number why) → FedRecord rules most bytes out (shelved r out)
  unfolding fed_record fed_on_read
  damaged why e p =
      record {
        blocks = [];
        is = ap (λ (r : Replayed). shelved r out) p ∙ sym (ap (λ o. fed_on_read rules most [] out (read_as bytes o)) e);
      }

  pub opened : (l : Layout) {x : Shelved} → open_of bytes ≡ Ok l → FedShelf rules most (bare l) (held_in bytes l) no_words out x → FedRecord rules most bytes out x
  unfolding fed_record fed_on_read
  opened l e v =
      record {
        blocks = v.blocks;
        is =
            v.is
            ∙ ap (λ (m : Layout). fed_shelf rules most (layout state_size m.points m.contours m.twilight m.controls 0) (held_in bytes l) no_words v.blocks out) (sym (layout_kept bytes l))
            ∙ sym (ap (λ o. fed_on_read rules most v.blocks out (read_as bytes o)) e);
      }
