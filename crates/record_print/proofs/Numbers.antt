-- Worked texts: digits, a sign, and lines of document 01's whole run. Assumes nothing.
use Prim.Native.Nat.{ℕ}
use mathlib.Core.List.{List, [], ◌∷◌}
use mathlib.Core.Path.{◌≡◌, refl}
use lib.IntN.{negsuc, pos}
use Rattle.record_read.specs.Format.{layout}
use Rattle.record_run.specs.declared.Replayed.{Replayed}
use Rattle.record_print.specs.Print.{answer_line, point_line}
use Rattle.record_print.specs.Text.{decimal, signed_decimal}

-- what document 01's whole run says
abbrev whole_run : Replayed
whole_run = record { number = 0; place = 7; lines = 3; detail = 0; size = 284; layout = layout 34 3 1 0 0 7 }

-- the text on the left is the bytes on the right
pub record Row : Type 0 where
  pub text : List ℕ
  pub bytes : List ℕ

abbrev row : List ℕ → List ℕ → Row
row text bytes = record { text = text; bytes = bytes }

abbrev texts : List Row → List (List ℕ)
texts [] = []
texts (r ∷ rs) = r.text ∷ texts rs

abbrev spelled : List Row → List (List ℕ)
spelled [] = []
spelled (r ∷ rs) = r.bytes ∷ spelled rs

abbrev pub rows : List Row
rows =
    row (decimal 0) (48 ∷ [])
    ∷ row (decimal 9) (57 ∷ [])
    ∷ row (decimal 10) (49 ∷ 48 ∷ [])
    ∷ row (decimal 100) (49 ∷ 48 ∷ 48 ∷ [])
    ∷ row (signed_decimal (negsuc 0)) (45 ∷ 49 ∷ [])
    ∷ row (answer_line whole_run) (48 ∷ 32 ∷ 55 ∷ 32 ∷ 51 ∷ 32 ∷ 48 ∷ 10 ∷ [])
    ∷ row (point_line (pos 0) (pos 64) 5) (48 ∷ 32 ∷ 54 ∷ 52 ∷ 32 ∷ 53 ∷ 10 ∷ [])
    ∷ row (point_line (negsuc 63) (pos 154) 255) (45 ∷ 54 ∷ 52 ∷ 32 ∷ 49 ∷ 53 ∷ 52 ∷ 32 ∷ 50 ∷ 53 ∷ 53 ∷ 10 ∷ [])
    ∷ []

pub numbers : texts rows ≡ spelled rows
unfolding decimal
numbers = refl
