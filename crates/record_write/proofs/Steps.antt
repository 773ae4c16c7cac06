-- What one store leaves, by what its calls ensure, over plain values: the functions' proofs cite these. Assumes nothing.
use mathlib.Core.Path.{◌≡◌, refl, ap, ap₂, ◌∙◌}
use mathlib.Core.List.{List, [], ◌∷◌, map}
use Prim.Native.Nat.{ℕ, ◌*◌, ◌%◌, ◌^◌}
use Rattle.std.proofs.lemmas.List.{map-id}
use Rattle.record_layout.specs.Order.{at_trailer, edition}
use Rattle.record_layout.specs.declared.Layout.{Layout}
use Rattle.words.specs.Lists.{part, placed, wrapping_sum}
use Rattle.record_write.specs.Steps.{sum_place, with_counts, with_sum}

-- words at a place, over what was left before
pub stored : (words : List ℕ) {at at' : ℕ} {before before' after : List ℕ} → at' ≡ at → after ≡ placed at' words before' → before' ≡ before → after ≡ placed at words before
stored words ea e eb = e ∙ ap₂ (λ (n : ℕ) (l : List ℕ). placed n words l) ea eb

-- the same of words that are written as they are
pub stored_as_is : (words : List ℕ) {at at' : ℕ} {before before' after : List ℕ} → at' ≡ at → after ≡ placed at' (map (λ (w : ℕ). w) words) before' → before' ≡ before → after ≡ placed at words before
stored_as_is words {at' = at'} {before' = before'} ea e eb = stored words ea (e ∙ ap (λ (ws : List ℕ). placed at' ws before') (map-id words)) eb

module _ (l : Layout) (bytes : List ℕ) {at : ℕ} {after : List ℕ} where
  pub counts_stored :
      {back : ℕ} → back ≡ at_trailer l * 4 % 2 ^ 32 → at ≡ at_trailer l →
      after ≡ placed at (l.points ∷ l.contours ∷ l.twilight ∷ l.controls ∷ l.words ∷ edition ∷ back ∷ []) bytes → after ≡ with_counts l bytes
  counts_stored eb ea e = rw (e, eb, ea) refl

  pub sum_stored : {sum : ℕ} → at ≡ sum_place l → sum ≡ wrapping_sum (part bytes 0 at) → after ≡ placed at (sum ∷ []) bytes → after ≡ with_sum l bytes
  sum_stored ea es e = rw (e, es, ea) refl
