-- `record_read::layout_of` meets its contract. Assumes nothing.
use mathlib.Core.Path.{◌≡◌, refl}
use mathlib.Core.List.{List}
use Prim.Native.Nat.{ℕ}
use Rattle.record_read.specs.Format.{layout}
use Rattle.record_read.specs.Read.{kept_in, layout_of, trailer_word}
use Rattle.record_read.proofs.layout_of.Goals as goal

-- the counts, as they were read
laid_out :
    (bytes : List ℕ) {s p c t k w : ℕ} → p ≡ trailer_word bytes 0 → c ≡ trailer_word bytes 1 → t ≡ trailer_word bytes 2 → k ≡ trailer_word bytes 3 → w ≡ trailer_word bytes 4 →
    s ≡ kept_in bytes → layout s p c t k w ≡ layout_of bytes
laid_out bytes ep ec et ek ew es = rw (es, ep, ec, et, ek, ew) refl

pub returns : goal.returns
returns c =
    laid_out c.args.bytes.now c.trailer_word-points.ensures c.trailer_word-contours.ensures c.trailer_word-twilight.ensures c.trailer_word-controls.ensures c.trailer_word-words.ensures c.kept_in-state.ensures
