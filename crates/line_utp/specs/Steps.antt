-- UTP's point as a private function says it, over both zones' flags. Nobody need believe this: Utp.antt is what the line is held to. Assumes nothing.
use Rattle.answer.specs.declared.Refusal.{Refusal}
use Rattle.std.specs.Prelude.{ℕ, Bool, List, ⊤, Result}
use Rattle.graphics.specs.declared.ZonePointer.TheVariants.{Glyph, Twilight}
use Rattle.graphics.specs.declared.ZonePointer.{ZonePointer}
use Rattle.zone.specs.Zone.{Marked}
use Rattle.line_utp.specs.Utp.{untouched_by}

pub record BothMarked : Type 0 where
  pub call : Result ⊤ Refusal
  pub gflags : List ℕ
  pub tflags : List ℕ

abbrev pub both_marked : Result ⊤ Refusal → List ℕ → List ℕ → BothMarked
both_marked call gflags tflags = record { call = call; gflags = gflags; tflags = tflags }

abbrev pub marked_glyph : List ℕ → Marked → BothMarked
marked_glyph tflags m = both_marked m.call m.flags tflags

abbrev pub marked_twilight : List ℕ → Marked → BothMarked
marked_twilight gflags m = both_marked m.call gflags m.flags

unfoldable pub untouched_in : ℕ → Bool → Bool → List ℕ → List ℕ → ZonePointer → BothMarked
untouched_in at x y gflags tflags Glyph = marked_glyph tflags (untouched_by gflags at x y)
untouched_in at x y gflags tflags Twilight = marked_twilight gflags (untouched_by tflags at x y)
