-- A span shifted as the reference point was, in each of its cases, over plain lists: the proof of `shift_span_of` cites these. Assumes nothing.
use Rattle.std.specs.Prelude.{Result, Ok, Err}
use Prim.Native.Nat.{ℕ}
use mathlib.Core.Bool.{Bool}
use mathlib.Core.List.{List}
use mathlib.Core.Path.{◌≡◌, ap, sym, ◌∙◌}
use lib.IntN.{ℤ}
use Rattle.answer.specs.declared.Refusal.{Refusal}
use Rattle.graphics.specs.declared.Facts.{Facts}
use Rattle.graphics.specs.declared.Vectors.{Vectors}
use Rattle.graphics.specs.declared.ZonePointer.{ZonePointer}
use Rattle.line_steps.specs.Loop.{Ended, Zones, ended, in_zone}
use Rattle.moves.specs.Displacement.{displaced_in}
use Rattle.moves.specs.Move.{zp2_move_of}
use Rattle.moves.specs.declared.Displacement.{Displacement}
use Rattle.moves.specs.declared.Move.{Move}
use Rattle.moves.specs.declared.Reference.{Reference}
use Rattle.line_span.specs.Span.{same_zone}
use Rattle.line_span.specs.Steps.{shift_span, span_by, span_of}

module _ (v : Vectors) (f : Facts) (zp2 : ZonePointer) (p : Reference) (touches : Bool) (start end : ℕ) (gox goy tox toy : List ℤ) (z : Zones) {g : Result Displacement Refusal}
    (found : g ≡ displaced_in v p gox goy z.glyph.xs z.glyph.ys tox toy z.twilight.xs z.twilight.ys p.zone) where
  -- there is no reference point
  pub span_out : {why : Refusal} → g ≡ Err why → ended (Err why) z ≡ span_of v f zp2 p touches start end gox goy tox toy z
  unfolding span_of span_by
  span_out q = ap (span_by v f zp2 touches start end z) (sym q ∙ found)

  -- its displacement is made a move, and the point itself is kept in its own zone
  pub span_there : {d : Displacement} {m : Move} {keeps : Bool} {x y : ℤ} {r : Ended Zones} → g ≡ Ok d
      → m ≡ zp2_move_of v f x y touches → x ≡ d.dx → y ≡ d.dy → keeps ≡ same_zone d.zone zp2
      → r ≡ in_zone (shift_span m keeps d.at start end) z zp2 → r ≡ span_of v f zp2 p touches start end gox goy tox toy z
  unfolding span_of span_by
  span_there {d = d} {m = m} {y = y} q by a b k e =
      e
      ∙ ap (λ (keep : Bool). in_zone (shift_span m keep d.at start end) z zp2) k
      ∙ ap (λ (by : Move). in_zone (shift_span by (same_zone d.zone zp2) d.at start end) z zp2)
      (by ∙ ap (λ (x : ℤ). zp2_move_of v f x y touches) a ∙ ap (λ (y : ℤ). zp2_move_of v f d.dx y touches) b)
      ∙ ap (span_by v f zp2 touches start end z) (sym q ∙ found)
