-- Points in a row as private functions say it, over the lists lent. Nobody need believe this: Span.antt is what the lines SHC and SHZ are held to. Assumes nothing.
use Rattle.answer.specs.declared.Refusal.{Refusal}
use Rattle.moves.specs.declared.Displacement.{Displacement}
use Rattle.std.specs.Prelude.{ℕ, ◌-◌, suc, zero, Bool, ◌&&◌, cond, List, eqb, ℤ, Result, Ok, Err}
use Rattle.graphics.specs.declared.Facts.{Facts}
use Rattle.graphics.specs.declared.Vectors.{Vectors}
use Rattle.graphics.specs.declared.ZonePointer.{ZonePointer}
use Rattle.line_steps.specs.Loop.{Ended, Points, Zones, each, ended, in_zone, pass, points, shift_unless_idle}
use Rattle.moves.specs.Displacement.{displaced_in}
use Rattle.moves.specs.Move.{moved_at, zp2_move_of}
use Rattle.moves.specs.declared.Move.{Move}
use Rattle.moves.specs.declared.Reference.{Reference}
use Rattle.zone.specs.Zone.{or_at}
use Rattle.line_span.specs.Span.{points_from, same_zone}

-- a point shifted, unless it is the one that is kept
abbrev pub shift_but_at : Move → Bool → ℕ → ℕ → Points → Ended Points
shift_but_at m keeps kept at p = cond (keeps && eqb at kept) (pass at p) (shift_unless_idle m at p)

-- the points from start up to end, which is not one of them
abbrev pub in_row : {S : Type 0} → (ℕ → S → Ended S) → ℕ → ℕ → S → Ended S
in_row f start end s = each f (end - start) (points_from start (end - start)) s

unfoldable pub shift_span : Move → Bool → ℕ → ℕ → ℕ → Points → Ended Points
shift_span m keeps kept start end p = in_row (shift_but_at m keeps kept) start end p

-- ---- the same list by list, where the points are all there
-- a change at each place from `at` on, so many
unfoldable pub at_each : {A : Type 0} → (List A → ℕ → List A) → ℕ → ℕ → List A → List A
at_each f zero at l = l
at_each f (suc n) at l = at_each f n (suc at) (f l at)

abbrev pub moved_from : Bool → ℤ → ℕ → ℕ → List ℤ → List ℤ
moved_from moves by n at l = at_each (λ (m : List ℤ) (i : ℕ). moved_at m i by moves) n at l

abbrev pub touched_from : ℕ → ℕ → ℕ → List ℕ → List ℕ
touched_from bits n at flags = at_each (λ (m : List ℕ) (i : ℕ). or_at m i bits) n at flags

abbrev pub shifted_from : Move → ℕ → ℕ → Points → Points
shifted_from m n at p =
    points
    (moved_from m.moves_x m.dx n at p.xs)
    (moved_from m.moves_y m.dy n at p.ys)
    (touched_from m.touch n at p.flags)

-- from start up to end
abbrev pub moved_run : Bool → ℤ → ℕ → ℕ → List ℤ → List ℤ
moved_run moves by start end l = moved_from moves by (end - start) start l

abbrev pub touched_run : ℕ → ℕ → ℕ → List ℕ → List ℕ
touched_run bits start end flags = touched_from bits (end - start) start flags

abbrev pub shifted_run : Move → ℕ → ℕ → Points → Points
shifted_run m start end p = shifted_from m (end - start) start p

-- ---- in the zone that a pointer names
-- as the reference point was, which is kept where it lies in the same zone
unfoldable pub span_by : Vectors → Facts → ZonePointer → Bool → ℕ → ℕ → Zones → Result Displacement Refusal → Ended Zones
span_by v f zp2 touches start end z (Ok d) = in_zone (shift_span (zp2_move_of v f d.dx d.dy touches) (same_zone d.zone zp2) d.at start end) z zp2
span_by v f zp2 touches start end z (Err why) = ended (Err why) z

unfoldable pub span_of : Vectors → Facts → ZonePointer → Reference → Bool → ℕ → ℕ → List ℤ → List ℤ → List ℤ → List ℤ → Zones → Ended Zones
span_of v f zp2 p touches start end gox goy tox toy z =
    span_by v f zp2 touches start end z
    (displaced_in v p gox goy z.glyph.xs z.glyph.ys tox toy z.twilight.xs z.twilight.ys p.zone)
