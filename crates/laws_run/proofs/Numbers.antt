-- Document 01, "Numbers to hold it to", as one claim: `numbers`. Every row of its table, what it says of Grid, Up and Down on every input, and its
-- runs. A row computes from the definition that the public call of its rule is proved to equal. Assumes nothing.
use Rattle.std.specs.Prelude.{Ok}
use mathlib.Core.Bool.{Bool, false, true}
use mathlib.Core.List.{List, [], ◌∷◌, map}
use Prim.Native.Nat.{◌%◌, ◌-◌, ◌^◌, ◌≤◌, ℕ}
use lib.IntN.{◌-ℤ◌, nat_abs, neg_ℤ, pos, ℤ}
use mathlib.Core.Path.{◌≡◌, refl}
use Rattle.round.specs.declared.RoundMode.TheVariants.{DoubleGrid, DownToGrid, Grid, HalfGrid, Super, UpToGrid}
use Rattle.run_lines.specs.declared.Answer.TheVariants.{Finished, OutOfBudget, Refused}
use Rattle.line.specs.World.{Fixed, World, fixed, world}
use Rattle.graphics.specs.declared.ZonePointer.TheVariants.{Glyph}
use Rattle.graphics.specs.declared.GraphicsState.{GraphicsState}
use Rattle.answer.specs.declared.Refusal.TheVariants.{Point}
use Rattle.run_lines.specs.Onward.{Ran, detail_of_answer, ends, number_of_answer, on_call, replay_of}
use Rattle.contour_ends.specs.Ends.{rising_from}
use Rattle.rules.specs.declared.Rules.TheVariants.{FreeType}
use Rattle.replay.specs.Run.{entry_of, on_entry, run_of}
use Rattle.line.specs.Sizes.{fits}
use Rattle.run_step.specs.Step.{on_decoded, step_of}
use Rattle.round.specs.declared.RoundMode.{RoundMode}
use Rattle.round.proofs.Facts.{SameSide, down_rounds, grid_rounds, up_rounds}
use Rattle.graphics.specs.declared.Vector.{Vector}
use Rattle.graphics.specs.declared.Vectors.{Vectors}
use Rattle.iup.specs.Iup.{Swept as Walked, iup_of, sizes_fit, tried_of, walk_of, swept as walked}
use Rattle.int.specs.Word.{abs32, add32, and32, max_z, min_z, neg32, sub32, wrap32}
use Rattle.flags.specs.declared.Axis.TheVariants.{X}
use Rattle.iup.specs.Contour.{along, between, contour_of, inside, points_of, spread, touched_places}
use Rattle.projection.specs.Projection.{along_of, axis_of, fdotp_of, freedom_axis_by, not_small, raw_fdotp}
use Rattle.moves.specs.Apply.{apply_in, apply_of}
use Rattle.line_set.specs.Setters.{axis_by, set_by, set_of, vectors_by}
use Rattle.opcodes.specs.Decode.{decode_by, decode_of}
use Rattle.opcodes.specs.Table.{line_of, need_of, row_of}
use Rattle.line_mdap.specs.Mdap.{mdap_distance, mdap_of, outside_mdap, rounding_step}
use Rattle.line_iup.specs.Iup.{iup_line_of, marked_for}
use Rattle.line_steps.specs.Numbers.{from_origin, step_from}
use Rattle.line_steps.specs.Steps.{laid_in, move_in, one, point_or, rounded_move_in}
use Rattle.line.specs.Places.{fetch_in}
use Rattle.math.specs.Fixed.{dot_fix14, half_away14, half_up, mul_div, mul_fix14, multiple_below, pad_floor, with_sign}
use Rattle.round.specs.Round.{double_grid, down_to_grid, grid, half_grid, inward, keep_down, keep_up, outward, period_floor, round_of, super_by, up_to_grid}
use Rattle.round.specs.Tracked.{minus, negated, past as pastBits, plus}
use Rattle.zone.specs.Zone.{fetch_of}
use Rattle.graphics.specs.State.{fresh_state, usable_state, vector_in_range, vectors_in_range, with_rounding, x_axis, y_axis}
use Rattle.zone.specs.Sizes.{glyph_fits, pair_fits, placed_fits, twilight_fits}
use Rattle.iup.specs.Parts.{marks}
use Rattle.moves.specs.Move.{move_of, step_by}

-- ---- how the rows are written
-- -n
abbrev neg : ℕ → ℤ
neg n = neg_ℤ (pos n)

abbrev pub three : ℤ → ℤ → ℤ → List ℤ
three a b c = a ∷ b ∷ c ∷ []

abbrev pub flags : ℕ → ℕ → ℕ → List ℕ
flags a b c = a ∷ b ∷ c ∷ []

-- rounding by a mode, with threshold, phase and period
abbrev by : RoundMode → ℤ → ℤ → ℤ → ℤ → ℤ
by mode threshold phase period = round_of (record { mode = mode; threshold = threshold; phase = phase; period = period })

abbrev plainly : RoundMode → ℤ → ℤ
plainly mode = by mode (pos 0) (pos 0) (pos 64)

-- multiples of 64 and never another sign, on every input; within ±(2^31 - 64) a distance is moved by at most `far`
abbrev Steady : (ℤ → ℤ) → ℕ → Type 0
Steady f far = (d : ℤ) → (nat_abs (f d) % 64 ≡ 0) × (SameSide d (f d)) × (nat_abs d ≤ 2 ^ 31 - 64 → nat_abs (f d -ℤ d) ≤ far)

-- a projection vector of this x and a freedom vector on the x axis: fdotp before replacing is this x
abbrev leaning : ℤ → Vectors
leaning x = record { projection = record { x = x; y = pos 0 }; dual = x_axis; freedom = x_axis }

-- IUP of x on one contour of three points: unscaled, original and current coordinates, and which are touched
abbrev iup : List ℤ → List ℤ → List ℤ → List ℕ → Walked
iup unscaled original current touched = tried_of X touched (2 ∷ []) unscaled original current

-- ---- the runs
-- three points, one contour ending at 2, every x 0, unscaled and original y 40, 100, 130; no control values
abbrev pub zeros : List ℤ
zeros = three (pos 0) (pos 0) (pos 0)

abbrev pub heights : List ℤ
heights = three (pos 40) (pos 100) (pos 130)

abbrev pub glyph : Fixed
glyph = fixed FreeType [] zeros heights zeros heights (2 ∷ [])

-- every x 0, and no twilight points
abbrev pub holding : GraphicsState → List ℤ → List ℕ → World
holding s ys marks = world s zeros ys marks [] [] [] [] []

-- current y as the originals, flags 1, 1, 1
abbrev pub at_first : GraphicsState → World
at_first s = holding s heights (flags 1 1 1)

-- a state with these vectors, references rp0, rp1 and rp2, and pedantic or not; the rest is fresh: Grid with 0, 0, 64, loop 1, all pointers glyph,
-- cut-in 68, minimum distance 64, single width, its cut-in and the scale 0, auto flip, all other facts no, no rounding counted, nothing pushed
abbrev pub state_with : Vector → ℕ → ℕ → ℕ → Bool → GraphicsState
state_with v rp0 rp1 rp2 pedantic = record {
  vectors = record { projection = v; dual = v; freedom = v };
  round = record { mode = Grid; threshold = pos 0; phase = pos 0; period = pos 64 };
  references = record { rp0 = rp0; rp1 = rp1; rp2 = rp2 };
  loop_counter = 1;
  pointers = record { zp0 = Glyph; zp1 = Glyph; zp2 = Glyph };
  measures = record { cut_in = pos 68; minimum_distance = pos 64; single_width = pos 0; single_width_cut_in = pos 0; auto_flip = true; scale = pos 0 };
  facts = record { backward_compatibility = false; pedantic = pedantic; native_clear_type_x = false; did_iup_x = false; did_iup_y = false };
  tallies = record { wrapped_roundings = 0; last_pushed = pos 0; pushes = 0 };
}

-- SVTCA[y], MDAP[1] of point 0, IUP[y]
abbrev pub whole : List ℤ
whole = pos 0 ∷ pos 0 ∷ pos 47 ∷ pos 1 ∷ pos 0 ∷ pos 48 ∷ pos 0 ∷ []

-- MDAP[1] of point -1
abbrev outside : List ℤ
outside = pos 47 ∷ pos 1 ∷ neg 1 ∷ []

-- answer, place, lines and detail
abbrev said : Ran → ℕ × ℕ × ℕ × ℕ
said r = (number_of_answer r.answer, r.place, r.lines, detail_of_answer r.answer)

-- ---- the claim
pub record PaperNumbers : Type 0 where
  -- the table, row by row
  pub grid_halves : map (plainly Grid) (pos 31 ∷ pos 32 ∷ neg 31 ∷ neg 32 ∷ []) ≡ pos 0 ∷ pos 64 ∷ pos 0 ∷ neg 64 ∷ []
  pub grid_most : plainly Grid (pos 2147483647) ≡ pos 0
  pub grid_least : plainly Grid (neg 2147483648) ≡ neg 2147483648
  pub half_grid : map (plainly HalfGrid) (pos 0 ∷ pos 63 ∷ pos 64 ∷ neg 1 ∷ []) ≡ pos 32 ∷ pos 32 ∷ pos 96 ∷ neg 32 ∷ []
  pub double_grid : map (plainly DoubleGrid) (pos 15 ∷ pos 16 ∷ []) ≡ pos 0 ∷ pos 32 ∷ []
  pub up : map (plainly UpToGrid) (pos 1 ∷ neg 1 ∷ []) ≡ pos 64 ∷ neg 64 ∷ []
  pub down : map (plainly DownToGrid) (pos 63 ∷ neg 64 ∷ []) ≡ pos 0 ∷ neg 64 ∷ []
  pub super : map (by Super (pos 32) (pos 16) (pos 64)) (pos 0 ∷ neg 1 ∷ []) ≡ pos 16 ∷ neg 16 ∷ []
  pub mul_div : mul_div (pos 7) (pos 1) (pos 2) ∷ mul_div (neg 7) (pos 1) (pos 2) ∷ mul_div (neg 5) (pos 3) (pos 0) ∷ []
      ≡ pos 4 ∷ neg 4 ∷ neg 2147483647 ∷ []
  pub mul14 : map (λ (z : ℤ). mul_fix14 z (pos 0x2000)) (pos 64 ∷ pos 1 ∷ neg 1 ∷ []) ≡ pos 32 ∷ pos 1 ∷ neg 1 ∷ []
  pub fdotp_before : map (λ (x : ℤ). raw_fdotp (leaning x).projection (leaning x).freedom) (pos 0x3FF ∷ neg 0x3FF ∷ pos 0x400 ∷ neg 0x400 ∷ [])
      ≡ pos 0x3FF ∷ neg 0x3FF ∷ pos 0x400 ∷ neg 0x400 ∷ []
  pub fdotp : map (λ (x : ℤ). fdotp_of (leaning x)) (pos 0x3FF ∷ neg 0x3FF ∷ pos 0x400 ∷ neg 0x400 ∷ [])
      ≡ pos 0x4000 ∷ pos 0x4000 ∷ pos 0x400 ∷ neg 0x400 ∷ []
  pub iup_shift : iup (three (pos 0) (pos 0) (pos 0)) (three (pos 0) (pos 64) (pos 128)) (three (pos 0) (pos 74) (pos 128)) (flags 0 2 0)
      ≡ walked (Ok tt) (three (pos 10) (pos 74) (pos 138))
  pub iup_between : iup (three (pos 0) (pos 500) (pos 1000)) (three (pos 0) (pos 320) (pos 640)) (three (pos 0) (pos 320) (pos 704)) (flags 2 0 2)
      ≡ walked (Ok tt) (three (pos 0) (pos 352) (pos 704))
  -- on every input; Grid moves by at most 32, Up and Down by less than 64
  pub grid_always : Steady (plainly Grid) 32
  pub up_always : Steady (plainly UpToGrid) 63
  pub down_always : Steady (plainly DownToGrid) 63
  -- the whole run, and with a budget of 2: what each comes to, and what it says in numbers
  pub run_3 : run_of glyph whole 3 0 (at_first (state_with x_axis 0 0 0 false))
      ≡ ends Finished 3 7 (holding (state_with y_axis 0 0 0 false) (three (pos 64) (pos 124) (pos 154)) (flags 5 1 1))
  pub run_3_said : said (run_of glyph whole 3 0 (at_first (state_with x_axis 0 0 0 false))) ≡ (0, 7, 3, 0)
  pub run_2 : run_of glyph whole 2 0 (at_first (state_with x_axis 0 0 0 false))
      ≡ ends OutOfBudget 2 5 (holding (state_with y_axis 0 0 0 false) (three (pos 64) (pos 100) (pos 130)) (flags 5 1 1))
  pub run_2_said : said (run_of glyph whole 2 0 (at_first (state_with x_axis 0 0 0 false))) ≡ (1, 5, 2, 0)
  -- point -1, pedantic and not
  pub pedantic : run_of glyph outside 1 0 (at_first (state_with x_axis 0 0 0 true))
      ≡ ends (Refused (Point 18446744073709551615)) 0 0 (at_first (state_with x_axis 0 0 0 true))
  pub pedantic_said : said (run_of glyph outside 1 0 (at_first (state_with x_axis 0 0 0 true))) ≡ (7, 0, 0, 18446744073709551615)
  pub lenient : run_of glyph outside 1 0 (at_first (state_with x_axis 0 0 0 false))
      ≡ ends Finished 1 3 (at_first (state_with x_axis 18446744073709551615 18446744073709551615 0 false))
  pub lenient_said : said (run_of glyph outside 1 0 (at_first (state_with x_axis 0 0 0 false))) ≡ (0, 3, 1, 0)
  -- the state that the runs start from is the fresh one
  pub fresh : state_with x_axis 0 0 0 false ≡ fresh_state

pub numbers : PaperNumbers
unfolding run_of on_entry entry_of rising_from fits glyph_fits twilight_fits pair_fits placed_fits usable_state vectors_in_range vector_in_range replay_of step_of on_decoded on_call decode_of decode_by need_of line_of row_of set_of set_by vectors_by axis_by one point_or fetch_in move_in laid_in apply_in mdap_of mdap_distance outside_mdap from_origin rounding_step grid along_of axis_of raw_fdotp not_small fetch_of apply_of move_of step_by freedom_axis_by iup_line_of marked_for iup_of walk_of contour_of points_of touched_places spread between along inside add32 sub32 neg32 abs32 mul_div mul_fix14 dot_fix14 half_away14 half_up with_sign wrap32 max_z min_z keep_up keep_down pad_floor multiple_below period_floor inward outward plus minus negated pastBits rounded_move_in step_from with_rounding half_grid double_grid up_to_grid down_to_grid super_by and32 tried_of sizes_fit
numbers = record {
  grid_halves = refl;
  grid_most = refl;
  grid_least = refl;
  half_grid = refl;
  double_grid = refl;
  up = refl;
  down = refl;
  super = refl;
  mul_div = refl;
  mul14 = refl;
  fdotp_before = refl;
  fdotp = refl;
  iup_shift = refl;
  iup_between = refl;
  grid_always = λ d. (grid_rounds.whole d, grid_rounds.side d, grid_rounds.near d);
  up_always = λ d. (up_rounds.whole d, up_rounds.side d, up_rounds.near d);
  down_always = λ d. (down_rounds.whole d, down_rounds.side d, down_rounds.near d);
  run_3 = refl;
  run_3_said = refl;
  run_2 = refl;
  run_2_said = refl;
  pedantic = refl;
  pedantic_said = refl;
  lenient = refl;
  lenient_said = refl;
  fresh = refl;
}
