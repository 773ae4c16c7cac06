-- The steps of the lines that turn a vector, as their private functions say them. Nobody need believe this: `turn_of` is what the lines are held to.
-- Assumes nothing.
use Rattle.answer.specs.declared.Refusal.{Refusal}
use Rattle.graphics.specs.declared.Vector.{Vector}
use Rattle.std.specs.Prelude.{ℕ, Bool, cond, ◌||◌, List, leb, ltb, ℤ, length, Result, Ok, Err}
use Rattle.answer.specs.declared.Refusal.TheVariants.{Missing}
use Rattle.graphics.specs.declared.GraphicsState.{GraphicsState}
use Rattle.graphics.specs.declared.ZonePointer.{ZonePointer}
use Rattle.line.specs.Line.{done_with, refused_with}
use Rattle.line.specs.Operands.{index_at}
use Rattle.line.specs.Places.{fetch_in}
use Rattle.line.specs.declared.Stepped.{Stepped}
use Rattle.line_vectors.specs.Vectors.{along_at, dual_at, line_vector}

-- ---- the vector that a line finds
-- the vector of two places, or the first refusal
unfoldable pub line_by : Bool → Result Vector Refusal → Result Vector Refusal → Result Vector Refusal
line_by across (Err why) second = Err why
line_by across (Ok p) (Err why) = Err why
line_by across (Ok p) (Ok q) = Ok (line_vector across p q)

-- of two operands, the points' lists and the zones that they are in; 6 where an operand is missing
unfoldable pub line_found : Bool → List ℤ → ZonePointer → ZonePointer → List ℤ → List ℤ → List ℤ → List ℤ → Result Vector Refusal
line_found across operands zp1 zp2 gx gy tx ty =
    cond (ltb (length operands) 2) (Err Missing)
    (line_by across (fetch_in (index_at operands 1) gx gy tx ty zp1) (fetch_in (index_at operands 0) gx gy tx ty zp2))

abbrev pub is_along : ℕ → Bool
is_along op = ltb op 0x0A || leb 0x86 op

-- ---- the vectors set
unfoldable pub settled_by : GraphicsState → ℕ → Result Vector Refusal → Stepped
settled_by s op (Err why) = refused_with s why
settled_by s op (Ok v) = done_with (along_at s op v)

unfoldable pub dual_by : GraphicsState → Result Vector Refusal → Result Vector Refusal → Stepped
dual_by s (Err why) now = refused_with s why
dual_by s (Ok dual) (Err why) = refused_with s why
dual_by s (Ok dual) (Ok v) = done_with (dual_at s dual v)
