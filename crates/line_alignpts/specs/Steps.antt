-- ALIGNPTS's distance as a private function says it. Nobody need believe this: Alignpts.antt is what the line is held to. Assumes nothing.
use Rattle.std.specs.Prelude.{Result, Ok, Err, ℤ}
use Rattle.answer.specs.declared.Refusal.{Refusal}
use Rattle.graphics.specs.declared.Vector.{Vector}
use Rattle.graphics.specs.declared.Vectors.{Vectors}
use Rattle.line_alignpts.specs.Alignpts.{half_of}

-- the first place is looked at first
unfoldable pub half_apart : Vectors → Result Vector Refusal → Result Vector Refusal → Result ℤ Refusal
half_apart v (Err why) second = Err why
half_apart v (Ok there) (Err why) = Err why
half_apart v (Ok there) (Ok here) = Ok (half_of v there here)
