-- Words that remember whether an operation on the way to them went past 32 bits: document 02, K5. A sum, difference, product, quotient or negation is
-- taken of exact integers and cut to a word; masks, `max` and `min` go past nothing. Assumes nothing.
use Rattle.std.specs.Prelude.{Bool, false, not, ◌||◌, ℤ, neg_ℤ, ◌+ℤ◌, ◌-ℤ◌, ◌*ℤ◌}
use Rattle.std.specs.Int.Signed.{quot_z}
use Rattle.int.specs.Word.{wrap32, eq_z}
use Rattle.round.specs.declared.Tracked.{Tracked}

-- a word that is there from the start
abbrev pub given : ℤ → Tracked
given z = record { word = z; wrapped = false }

-- past 32 bits: its low 32 bits are another number
unfoldable pub past : ℤ → Bool
past z = not (eq_z (wrap32 z) z)

-- an exact number cut to a word, where an operation before it went past or not
abbrev pub cut : Bool → ℤ → Tracked
cut before z = record { word = wrap32 z; wrapped = before || past z }

unfoldable pub plus : Tracked → Tracked → Tracked
plus a b = cut (a.wrapped || b.wrapped) (a.word +ℤ b.word)

unfoldable pub minus : Tracked → Tracked → Tracked
minus a b = cut (a.wrapped || b.wrapped) (a.word -ℤ b.word)

unfoldable pub times : Tracked → Tracked → Tracked
times a b = cut (a.wrapped || b.wrapped) (a.word *ℤ b.word)

-- toward zero; 0 where b is 0
unfoldable pub over : Tracked → Tracked → Tracked
over a b = cut (a.wrapped || b.wrapped) (quot_z a.word b.word)

unfoldable pub negated : Tracked → Tracked
negated a = cut a.wrapped (neg_ℤ a.word)

-- a mask, `max` or `min` of a word
abbrev pub on : (ℤ → ℤ) → Tracked → Tracked
on f a = record { word = f a.word; wrapped = a.wrapped }

-- a mask by another word
abbrev pub joined : (ℤ → ℤ → ℤ) → Tracked → Tracked → Tracked
joined f a b = record { word = f a.word b.word; wrapped = a.wrapped || b.wrapped }

-- b in the place of a, which was worked out before
abbrev pub instead_of : Tracked → Tracked → Tracked
instead_of = joined (λ a b. b)
