-- Two byte strings compared by the library's test are compared byte by byte. Assumes nothing.
use Prim.Native.Nat.{ℕ}
use mathlib.Core.Bool.{Bool, ◌&&◌}
use mathlib.Core.List.{List, [], ◌∷◌}
use mathlib.Core.Path.{◌≡◌, ap, refl}
use lib.Dec.{eqb}
use lib.Pointwise.{pointwise}
use Rattle.rules.specs.Rules.{same_bytes}

pub byte_by_byte : (a b : List ℕ) → pointwise eqb a b ≡ same_bytes a b
unfolding same_bytes
byte_by_byte [] [] = refl
byte_by_byte [] (y ∷ ys) = refl
byte_by_byte (x ∷ xs) [] = refl
byte_by_byte (x ∷ xs) (y ∷ ys) = ap (λ (t : Bool). eqb x y && t) (byte_by_byte xs ys)
