-- A move laid on a zone: FreeType 2.13.3, ttinterp.c (Direct_Move, Direct_Move_Orig, Move_Zp2_Point: what they write to zone->cur, zone->org
-- and zone->tags). The Rust decides what an index outside answers: zone.rs refuses before anything is written. Assumes nothing.
use Rattle.answer.specs.declared.Refusal.{Refusal}
use Rattle.std.specs.Prelude.{ℕ, cond, List, ltb, ℤ, length, ⊤, Result, Ok, Err}
use Rattle.answer.specs.declared.Refusal.TheVariants.{Point}
use Rattle.graphics.specs.declared.ZonePointer.{ZonePointer}
use Rattle.graphics.specs.declared.ZonePointer.TheVariants.{Twilight, Glyph}
use Rattle.zone.specs.Zone.{or_at}
use Rattle.moves.specs.Move.{moved_at}
use Rattle.moves.specs.declared.Move.{Move}

-- ---- coordinates alone
pub record Shifted : Type 0 where
  pub call : Result ⊤ Refusal
  pub xs : List ℤ
  pub ys : List ℤ

abbrev pub shifted : Result ⊤ Refusal → List ℤ → List ℤ → Shifted
shifted call xs ys = record { call = call; xs = xs; ys = ys }

unfoldable pub shift_of : Move → ℕ → List ℤ → List ℤ → Shifted
shift_of m at xs ys =
    cond (ltb at (length xs))
    (shifted (Ok tt) (moved_at xs at m.dx m.moves_x) (moved_at ys at m.dy m.moves_y))
    (shifted (Err (Point at)) xs ys)

-- ---- coordinates and flags
pub record Moved : Type 0 where
  pub call : Result ⊤ Refusal
  pub xs : List ℤ
  pub ys : List ℤ
  pub flags : List ℕ

abbrev pub moved : Result ⊤ Refusal → List ℤ → List ℤ → List ℕ → Moved
moved call xs ys flags = record { call = call; xs = xs; ys = ys; flags = flags }

unfoldable pub apply_of : Move → ℕ → List ℤ → List ℤ → List ℕ → Moved
apply_of m at xs ys flags =
    cond (ltb at (length xs))
    (moved (Ok tt) (moved_at xs at m.dx m.moves_x) (moved_at ys at m.dy m.moves_y) (or_at flags at m.touch))
    (moved (Err (Point at)) xs ys flags)

-- ---- both zones, of which one is chosen
pub record BothShifted : Type 0 where
  pub call : Result ⊤ Refusal
  pub gx : List ℤ
  pub gy : List ℤ
  pub tx : List ℤ
  pub ty : List ℤ

abbrev pub both_shifted : Result ⊤ Refusal → List ℤ → List ℤ → List ℤ → List ℤ → BothShifted
both_shifted call gx gy tx ty = record { call = call; gx = gx; gy = gy; tx = tx; ty = ty }

abbrev pub shifted_glyph : List ℤ → List ℤ → Shifted → BothShifted
shifted_glyph tx ty s = both_shifted s.call s.xs s.ys tx ty

abbrev pub shifted_twilight : List ℤ → List ℤ → Shifted → BothShifted
shifted_twilight gx gy s = both_shifted s.call gx gy s.xs s.ys

unfoldable pub shift_in : Move → ℕ → List ℤ → List ℤ → List ℤ → List ℤ → ZonePointer → BothShifted
shift_in m at gx gy tx ty Glyph = shifted_glyph tx ty (shift_of m at gx gy)
shift_in m at gx gy tx ty Twilight = shifted_twilight gx gy (shift_of m at tx ty)

pub record BothMoved : Type 0 where
  pub call : Result ⊤ Refusal
  pub gx : List ℤ
  pub gy : List ℤ
  pub gflags : List ℕ
  pub tx : List ℤ
  pub ty : List ℤ
  pub tflags : List ℕ

abbrev pub both_moved : Result ⊤ Refusal → List ℤ → List ℤ → List ℕ → List ℤ → List ℤ → List ℕ → BothMoved
both_moved call gx gy gflags tx ty tflags = record { call = call; gx = gx; gy = gy; gflags = gflags; tx = tx; ty = ty; tflags = tflags }

abbrev pub moved_glyph : List ℤ → List ℤ → List ℕ → Moved → BothMoved
moved_glyph tx ty tflags m = both_moved m.call m.xs m.ys m.flags tx ty tflags

abbrev pub moved_twilight : List ℤ → List ℤ → List ℕ → Moved → BothMoved
moved_twilight gx gy gflags m = both_moved m.call gx gy gflags m.xs m.ys m.flags

unfoldable pub apply_in : Move → ℕ → List ℤ → List ℤ → List ℕ → List ℤ → List ℤ → List ℕ → ZonePointer → BothMoved
apply_in m at gx gy gflags tx ty tflags Glyph = moved_glyph tx ty tflags (apply_of m at gx gy gflags)
apply_in m at gx gy gflags tx ty tflags Twilight = moved_twilight gx gy gflags (apply_of m at tx ty tflags)
