-- Which lines demand 3 excludes, of all 256 opcodes: for each axis the intersection, the lines that turn a vector but SFVTPV, and the three setters across, and of
-- the interpolations the one across. A promise that excluded a line more would be true and say less. Assumes nothing.
use mathlib.Core.Bool.{Bool, cond}
use mathlib.Core.List.{List, [], ◌∷◌}
use mathlib.Core.Path.{◌≡◌, refl}
use Prim.Native.Nat.{suc, zero, ℕ}
use Rattle.laws_axes.specs.Axes.{interpolates_across, mixes}
use Rattle.flags.specs.declared.Axis.TheVariants.{X, Y}

-- the numbers that pass a test, among so many from one on
abbrev pub passing : (ℕ → Bool) → ℕ → ℕ → List ℕ
passing test i zero = []
passing test i (suc n) = cond (test i) (i ∷ passing test (suc i) n) (passing test (suc i) n)

pub mixing :
    (passing (mixes X) 0 256 ≡ 0x00 ∷ 0x02 ∷ 0x04 ∷ 0x06 ∷ 0x07 ∷ 0x08 ∷ 0x09 ∷ 0x0A ∷ 0x0B ∷ 0x0F ∷ 0x86 ∷ 0x87 ∷ [])
    × (passing (mixes Y) 0 256 ≡ 0x01 ∷ 0x03 ∷ 0x05 ∷ 0x06 ∷ 0x07 ∷ 0x08 ∷ 0x09 ∷ 0x0A ∷ 0x0B ∷ 0x0F ∷ 0x86 ∷ 0x87 ∷ [])
mixing = (refl, refl)

pub interpolating : (passing (interpolates_across X) 0 256 ≡ 0x30 ∷ []) × (passing (interpolates_across Y) 0 256 ≡ 0x31 ∷ [])
interpolating = (refl, refl)
