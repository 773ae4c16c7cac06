-- The words of Said.antt: a test that a direct call makes, and what is said where tests are made in an order. Assumes nothing.
use Prim.Native.Nat.{ℕ}
use mathlib.Core.Bool.{Bool, cond}
use mathlib.Core.List.{List, [], ◌∷◌}
use lib.IntN.{ℤ}
use Rattle.answer.specs.Answer.{Said}
use Rattle.graphics.specs.declared.ZonePointer.{ZonePointer}
use Rattle.graphics.specs.declared.ZonePointer.TheVariants.{Glyph, Twilight}

pub record Test : Type 0 where
  pub holds : Bool
  -- where it doesn't
  pub number : ℕ
  pub detail : ℕ

abbrev pub sizes : Bool → Test
sizes fit = record { holds = fit; number = 2; detail = 0 }

abbrev pub ends : Bool → Test
ends rise = record { holds = rise; number = 14; detail = 0 }

abbrev pub state : Bool → Test
state usable = record { holds = usable; number = 3; detail = 0 }

abbrev pub point : ℕ → Bool → Test
point at is_there = record { holds = is_there; number = 7; detail = at }

abbrev pub range : ℕ → Bool → Test
range start is_there = record { holds = is_there; number = 11; detail = start }

-- "with place and lines 0"
abbrev pub says : ℕ → ℕ → Said
says number detail = record { number = number; place = 0; lines = 0; detail = detail }

-- the first that fails decides
abbrev pub in_order : List Test → Said
in_order [] = says 0 0
in_order (t ∷ ts) = cond t.holds (in_order ts) (says t.number t.detail)

-- the list of the zone that is named
abbrev pub of_zone : ZonePointer → List ℤ → List ℤ → List ℤ
of_zone Glyph glyph twilight = glyph
of_zone Twilight glyph twilight = twilight
