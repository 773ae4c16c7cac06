-- Rounding of 26.6 distances, by the mode: the OpenType instructions RTG, RTHG, RTDG, RDTG, RUTG, ROFF, SROUND and S45ROUND, and FreeType
-- 2.13.3, ttinterp.c (Round_To_Grid, Round_To_Half_Grid, Round_To_Double_Grid, Round_Down_To_Grid, Round_Up_To_Grid, Round_None, Round_Super,
-- Round_Super_45, with compensation 0), on words that wrap and remember it (document 02, K5): each operation is one of round.rs, in its order, and those
-- alone that the mode and the distance's sign use. Where a mirrored result would cross 0, docs/src gives 0; so does FreeType, but for HalfGrid, where it
-- gives 32 or -32: that happens within 63 of 2 ^ 31 alone. Super45 of -2 ^ 31 by -1 is undefined in FreeType's C and wraps in the Rust; by period 0 the
-- Rust panics, and document 01 refuses that. Assumes nothing.
use Rattle.answer.specs.declared.Refusal.{Refusal}
use Rattle.std.specs.Prelude.{Bool, true, false, not, cond, ℤ, pos, Result, Ok, Err}
use Rattle.std.specs.Int.Signed.{non_neg, lt_z}
use Rattle.int.specs.Word.{and32, eq_z, min_z, max_z}
use Rattle.math.specs.Fixed.{pix_floor, pad_floor}
use Rattle.answer.specs.declared.Refusal.TheVariants.{State}
use Rattle.round.specs.Tracked.{given, instead_of, joined, minus, negated, on, over, plus, times}
use Rattle.round.specs.declared.RoundMode.{RoundMode}
use Rattle.round.specs.declared.RoundMode.TheVariants.{Grid, HalfGrid, DoubleGrid, DownToGrid, UpToGrid, Off, Super, Super45}
use Rattle.round.specs.declared.RoundState.{RoundState}
use Rattle.round.specs.declared.Tracked.{Tracked}

-- ---- the modes that go by the grid
-- a distance from 0 up as it is, and one below 0 negated
unfoldable pub outward : ℤ → Tracked
outward d = cond (non_neg d) (given d) (negated (given d))

-- a result put back on the distance's side of 0, and never across it
unfoldable pub inward : ℤ → Tracked → Tracked
inward d r = cond (non_neg d) (on (λ z. max_z z (pos 0)) r) (on (λ z. min_z z (pos 0)) (negated r))

-- f of a distance from 0 up, and -f(-d) of one below 0
abbrev pub mirrored : (Tracked → Tracked) → ℤ → Tracked
mirrored f d = inward d (f (outward d))

unfoldable pub grid : Tracked → Tracked
grid x = on pix_floor (plus x (given (pos 32)))

unfoldable pub half_grid : Tracked → Tracked
half_grid x = plus (on pix_floor x) (given (pos 32))

unfoldable pub double_grid : Tracked → Tracked
double_grid x = on (λ z. pad_floor z (pos 32)) (plus x (given (pos 16)))

unfoldable pub down_to_grid : Tracked → Tracked
down_to_grid x = on pix_floor x

unfoldable pub up_to_grid : Tracked → Tracked
up_to_grid x = on pix_floor (plus x (given (pos 63)))

-- ---- Super and Super45
-- x down to its period: Super by the mask -period, Super45 by a quotient toward zero
unfoldable pub period_floor : Bool → ℤ → Tracked → Tracked
period_floor false period x = joined and32 x (negated (given period))
period_floor true period x = times (over x (given period)) (given period)

-- a result on the distance's side of 0, else the phase on that side
unfoldable pub keep_up : ℤ → Tracked → Tracked
keep_up phase v = cond (non_neg v.word) v (instead_of v (given phase))

unfoldable pub keep_down : ℤ → Tracked → Tracked
keep_down phase v = cond (lt_z (pos 0) v.word) (instead_of v (negated (given phase))) v

-- the distance with threshold - phase added, down to its period, and the phase added; below 0 the same, mirrored
unfoldable pub super_by : (Tracked → Tracked) → ℤ → ℤ → ℤ → Tracked
super_by down threshold phase d =
    let bias = minus (given threshold) (given phase) in
    cond (non_neg d)
    (keep_up phase (plus (down (plus (given d) bias)) (given phase)))
    (keep_down phase (minus (negated (down (minus bias (given d)))) (given phase)))

-- ---- by the mode
abbrev pub by_mode : RoundState → ℤ → RoundMode → Tracked
by_mode s d Grid = mirrored grid d
by_mode s d HalfGrid = mirrored half_grid d
by_mode s d DoubleGrid = mirrored double_grid d
by_mode s d DownToGrid = mirrored down_to_grid d
by_mode s d UpToGrid = mirrored up_to_grid d
by_mode s d Off = given d
by_mode s d Super = super_by (period_floor false s.period) s.threshold s.phase d
by_mode s d Super45 = super_by (period_floor true s.period) s.threshold s.phase d

-- a distance rounded, and whether an operation went past 32 bits
abbrev pub rounding : RoundState → ℤ → Tracked
rounding s d = by_mode s d s.mode

abbrev pub round_of : RoundState → ℤ → ℤ
round_of s d = (rounding s d).word

-- whether a state can be rounded by: Super45 divides by its period
abbrev pub usable_by : ℤ → RoundMode → Bool
usable_by period Grid = true
usable_by period HalfGrid = true
usable_by period DoubleGrid = true
usable_by period DownToGrid = true
usable_by period UpToGrid = true
usable_by period Off = true
usable_by period Super = true
usable_by period Super45 = not (eq_z period (pos 0))

abbrev pub usable : RoundState → Bool
usable s = usable_by s.period s.mode

-- the direct call
abbrev pub rounded_of : RoundState → ℤ → Result Tracked Refusal
rounded_of s d = cond (usable s) (Ok (rounding s d)) (Err State)

-- the state that a glyph starts with
abbrev pub fresh : RoundState
fresh = record { mode = Grid; threshold = pos 0; phase = pos 0; period = pos 64 }
