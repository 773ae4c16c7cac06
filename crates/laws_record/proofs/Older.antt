-- What no edition before the newest has: `older_measures_lem`. Assumes nothing.
use mathlib.Core.List.{List}
use mathlib.Core.Path.{◌≡◌, refl, subst}
use Prim.Native.Nat.{◌<◌, ℕ}
use Rattle.record_layout.specs.Order.{edition}
use Rattle.record_read.specs.Format.{Held}
use Rattle.record_read.specs.Read.{Kept, open_of, read_of, trailer_word}
use Rattle.laws_record.proofs.Kept.{Older, older_state, sound_held}

-- and no edition before the newest has a measure but the cut-in, or a push
pub older_measures_lem : (bytes : List ℕ) (h : Held) → read_of bytes ≡ Kept h → trailer_word bytes 5 < edition → Older h.world.state
older_measures_lem bytes h e older =
    let r = sound_held bytes (open_of bytes) refl h e in
    subst (λ (g : Held). Older g.world.state) r.0 (older_state bytes (trailer_word bytes 5) older)
