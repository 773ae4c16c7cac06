-- Demand 3 is about some runs: pairs of starts that meet every premise, on each axis and refused by a line, and a run that moves points along the axis and none
-- across; and runs that show why its premises are asked: an intersection, a vector along a line of two points, one that is turned across, an interpolation across. All computed. Assumes nothing.
use mathlib.Core.List.{List, [], ◌∷◌, map}
use mathlib.Core.Path.{◌≡◌, ap, refl}
use Prim.Native.Nat.{ℕ}
use mathlib.Core.Bool.{false, true}
use lib.IntN.{negsuc, pos, ℤ}
use Rattle.line.specs.World.{Fixed, World, fixed, world}
use Rattle.rules.specs.declared.Rules.TheVariants.{FreeType}
use Rattle.graphics.specs.declared.GraphicsState.{GraphicsState}
use Rattle.answer.specs.declared.Refusal.TheVariants.{ControlValue}
use Rattle.line_miap.specs.Miap.{miap_of}
use Rattle.line_mdap.specs.Mdap.{mdap_distance, mdap_of, outside_mdap, rounding_step}
use Rattle.line_iup.specs.Iup.{iup_line_of, marked_for}
use Rattle.line_isect.specs.Isect.{isect_of, put_touched}
use Rattle.line_steps.specs.Numbers.{from_origin, step_from}
use Rattle.line_steps.specs.Steps.{control_at, five as takeFive, laid_in, made_in, move_in, one, point_or, rounded_move_in, two}
use Rattle.line.specs.Places.{fetch_in, place_in}
use Rattle.line_distance.specs.Distance.{at_least, finished, flipped_of, minimum_of, on_side_of, rounded_unless, single_control, single_outline}
use Rattle.line_distance.specs.Outline.{originals_apart, outline_of, unscaled_apart}
use Rattle.line_mdrp.specs.Mdrp.{mdrp_distance, mdrp_of}
use Rattle.line_measure.specs.Measure.{gc_of}
use Rattle.line_sizes.specs.Sizes.{measure_by, size_by, sized_by, sizes_of}
use Rattle.line_vectors.specs.Vectors.{along_at, followed, line_vector, to_line_of, vector_by, vector_of}
use Rattle.normalize.specs.Unit.{unit_of}
use Rattle.line_mirp.specs.Mirp.{control_by, mirp_distance, mirp_of}
use Rattle.line_relative.specs.Relative.{both_there, related_by}
use Rattle.opcodes.specs.Table.{line_of, need_of, row_of}
use Rattle.flags.specs.Flag.{bit}
use Rattle.run_lines.specs.Onward.{Ran, on_call, replay_of}
use Rattle.run_lines.specs.declared.Answer.TheVariants.{Refused}
use Rattle.replay.specs.Run.{entry_of, on_entry as runOnEntry, run_of}
use Rattle.line.specs.Sizes.{fits}
use Rattle.run_step.specs.Step.{on_decoded, step_of}
use Rattle.laws_axes.specs.Plain.{OnlyXDiffers, OnlyYDiffers, SameHorizontally, SameVertically}
use Rattle.laws_axes.specs.Reached.{after_call, lines_reached, none, reached_on_entry, reached_from}
use Rattle.flags.specs.declared.Axis.{Axis}
use Rattle.flags.specs.declared.Axis.TheVariants.{X, Y}
use Rattle.int.specs.Word.{abs32, add32, max_z, min_z, mul32, neg32, quot32, sub32, wrap32}
use Rattle.graphics.specs.State.{all_along, fresh_state, usable_state, vector_in_range, vectors_in_range, with_push, with_rounding, with_vectors, x_axis, y_axis}
use Rattle.projection.specs.Projection.{along_of, axis_of, freedom_axis_by, not_small, raw_fdotp}
use Rattle.moves.specs.Apply.{apply_in, apply_of}
use Rattle.line_set.specs.Setters.{axis_by, set_by, set_of, vectors_by}
use Rattle.iup.specs.Contour.{contour_of, points_of, touched_places}
use Rattle.crossing.specs.Crossing.{cross_of, crossing_of, dot_of, meet, middle_by, moved_of}
use Rattle.opcodes.specs.Decode.{decode_by, decode_of}
use Rattle.zone.specs.Zone.{fetch_of}
use Rattle.zone.specs.Sizes.{glyph_fits, pair_fits, placed_fits, twilight_fits}
use Rattle.round.specs.Round.{grid, inward, outward}
use Rattle.round.specs.Tracked.{negated, past as pastBits, plus}
use Rattle.math.specs.Fixed.{half_up, mul_div, multiple_below, with_sign}
use Rattle.iup.specs.Iup.{iup_of, walk_of}
use Rattle.contour_ends.specs.Ends.{rising_from}
use Rattle.laws_axes.specs.Axes.{interpolates_across, mixes}
use Rattle.moves.specs.Move.{move_of, step_by}

abbrev vertical : GraphicsState
vertical = with_vectors fresh_state (all_along y_axis)

-- a glyph with these x and y coordinates, unscaled and original alike, on one contour
abbrev pub held : List ℤ → List ℤ → Fixed
held xs ys = fixed FreeType [] xs ys xs ys (4 ∷ [])

abbrev started : GraphicsState → List ℤ → List ℤ → List ℕ → World
started s xs ys flags = world s xs ys flags [] [] [] [] []

-- no flag set
abbrev unmarked : List ℕ
unmarked = 0 ∷ 0 ∷ 0 ∷ 0 ∷ 0 ∷ []

abbrev pub start : List ℤ → List ℤ → World
start xs ys = started vertical xs ys unmarked

abbrev level : List ℤ → List ℤ → World
level xs ys = started fresh_state xs ys unmarked

abbrev five : ℤ → ℤ → ℤ → ℤ → ℤ → List ℤ
five a b c d e = a ∷ b ∷ c ∷ d ∷ e ∷ []

abbrev pub heights : List ℤ
heights = five (pos 40) (pos 100) (pos 0) (pos 64) (pos 0)

-- ---- pairs that meet the premises
abbrev pub here : List ℤ
here = five (pos 0) (pos 10) (pos 20) (pos 30) (pos 40)

abbrev pub there : List ℤ
there = five (pos 7) (negsuc 2) (pos 100) (pos 0) (pos 64)

-- along an axis the heights, across it these coordinates: the glyph, and the start with every vector along the axis
abbrev pub glyph : Axis → List ℤ → Fixed
glyph X across = held heights across
glyph Y across = held across heights

abbrev pub begun : Axis → List ℤ → World
begun X across = level heights across
begun Y across = start across heights

pub differ_in_x : OnlyXDiffers (glyph Y here) (glyph Y there) (begun Y here) (begun Y there)
differ_in_x = search

pub differ_in_y : OnlyYDiffers (glyph X here) (glyph X there) (begun X here) (begun X there)
differ_in_y = search

-- MDAP[1] of point 0, then IUP on both axes
abbrev pub moving : List ℤ
moving = pos 47 ∷ pos 1 ∷ pos 0 ∷ pos 48 ∷ pos 0 ∷ pos 49 ∷ pos 0 ∷ []

pub reaches : (a : Axis) → lines_reached (glyph a here) moving 3 0 (begun a here) ≡ 47 ∷ 48 ∷ 49 ∷ []
unfolding lines_reached reached_on_entry reached_from after_call entry_of rising_from fits glyph_fits twilight_fits pair_fits placed_fits usable_state vectors_in_range vector_in_range step_of on_decoded decode_of decode_by need_of line_of row_of set_of one two takeFive control_at point_or fetch_in made_in move_in laid_in apply_in put_touched outside_mdap mdap_of mdap_distance from_origin rounding_step grid along_of axis_of raw_fdotp not_small fetch_of apply_of move_of step_by freedom_axis_by add32 sub32 neg32 abs32 wrap32 max_z min_z multiple_below inward outward plus negated pastBits rounded_move_in step_from with_rounding marked_for iup_line_of iup_of walk_of contour_of points_of touched_places
reaches X = refl
reaches Y = refl

-- every point moves by 24 along the axis
abbrev raised : List ℤ
raised = five (pos 64) (pos 124) (pos 24) (pos 88) (pos 24)

abbrev coordinates : Axis → World → List ℤ
coordinates X w = w.gx
coordinates Y w = w.gy

pub rise_alike :
    (a : Axis)
    → (coordinates a (run_of (glyph a here) moving 3 0 (begun a here)).world ≡ raised)
    × (coordinates a (run_of (glyph a there) moving 3 0 (begun a there)).world ≡ raised)
unfolding run_of runOnEntry entry_of rising_from fits glyph_fits twilight_fits pair_fits placed_fits usable_state vectors_in_range vector_in_range replay_of step_of on_decoded on_call decode_of decode_by need_of line_of row_of set_of one two takeFive control_at point_or fetch_in made_in move_in laid_in apply_in put_touched outside_mdap mdap_of mdap_distance from_origin rounding_step grid along_of axis_of raw_fdotp not_small fetch_of apply_of move_of step_by freedom_axis_by add32 sub32 neg32 abs32 wrap32 max_z min_z multiple_below inward outward plus negated pastBits rounded_move_in step_from with_rounding marked_for iup_line_of iup_of walk_of contour_of points_of touched_places
rise_alike X = (refl, refl)
rise_alike Y = (refl, refl)

-- ---- a pair that is refused
-- MDAP[1] of point 0, then MIAP[1] by control value 5, which isn't there
abbrev pub refusing : List ℤ
refusing = pos 47 ∷ pos 1 ∷ pos 0 ∷ pos 63 ∷ pos 2 ∷ pos 5 ∷ pos 0 ∷ []

-- the refused line is reached
pub reaches_refused : lines_reached (held here heights) refusing 9 0 (start here heights) ≡ 47 ∷ 63 ∷ []
unfolding lines_reached reached_on_entry reached_from after_call entry_of rising_from fits glyph_fits twilight_fits pair_fits placed_fits usable_state vectors_in_range vector_in_range step_of on_decoded decode_of decode_by need_of line_of row_of set_of one two takeFive control_at point_or fetch_in made_in move_in laid_in apply_in put_touched outside_mdap miap_of mdap_of mdap_distance from_origin rounding_step grid along_of axis_of raw_fdotp not_small fetch_of apply_of move_of step_by freedom_axis_by add32 sub32 neg32 abs32 wrap32 max_z min_z multiple_below inward outward plus negated pastBits rounded_move_in step_from with_rounding
reaches_refused = refl

-- one line is finished, and point 0 has moved
abbrev RefusedSecond : Ran → Type 0
RefusedSecond r =
    (r.answer ≡ Refused (ControlValue 5)) × (r.place ≡ 3) × (r.lines ≡ 1) × (r.world.gy ≡ five (pos 64) (pos 100) (pos 0) (pos 64) (pos 0))

pub refused_second :
    RefusedSecond (run_of (held here heights) refusing 9 0 (start here heights)) × RefusedSecond (run_of (held there heights) refusing 9 0 (start there heights))
unfolding run_of runOnEntry entry_of rising_from fits glyph_fits twilight_fits pair_fits placed_fits usable_state vectors_in_range vector_in_range replay_of step_of on_decoded on_call decode_of decode_by need_of line_of row_of set_of one two takeFive control_at point_or fetch_in made_in move_in laid_in apply_in put_touched outside_mdap miap_of mdap_of mdap_distance from_origin rounding_step grid along_of axis_of raw_fdotp not_small fetch_of apply_of move_of step_by freedom_axis_by add32 sub32 neg32 abs32 wrap32 max_z min_z multiple_below inward outward plus negated pastBits rounded_move_in step_from with_rounding
refused_second = ((refl, refl, refl, refl), (refl, refl, refl, refl))

-- ---- a pair that measures
-- SMD of 128, SFVTPV, MDRP of point 1 from point 0, rounded and no nearer than the minimum distance, MIRP of point 2 by no control value, and GC of point 1
abbrev pub measuring : List ℤ
measuring = pos 0x1A ∷ pos 1 ∷ pos 128 ∷ pos 0x0E ∷ pos 0 ∷ pos 0xCC ∷ pos 1 ∷ pos 1 ∷ pos 0xE0 ∷ pos 2 ∷ negsuc 0 ∷ pos 2 ∷ pos 0x46 ∷ pos 1 ∷ pos 1 ∷ []

pub reaches_measuring : (a : Axis) → lines_reached (glyph a here) measuring 5 0 (begun a here) ≡ 0x1A ∷ 0x0E ∷ 0xCC ∷ 0xE0 ∷ 0x46 ∷ []
unfolding lines_reached reached_on_entry reached_from after_call entry_of rising_from fits glyph_fits twilight_fits pair_fits placed_fits usable_state vectors_in_range vector_in_range step_of on_decoded decode_of decode_by need_of line_of row_of set_of one two point_or fetch_in place_in made_in move_in laid_in apply_in fetch_of apply_of move_of step_by freedom_axis_by axis_of raw_fdotp not_small along_of from_origin step_from rounded_move_in with_rounding with_push related_by both_there control_by mdrp_of mdrp_distance mirp_of mirp_distance gc_of outline_of unscaled_apart originals_apart single_outline single_control on_side_of flipped_of finished rounded_unless at_least minimum_of mul_div half_up with_sign grid inward outward plus negated pastBits multiple_below add32 sub32 neg32 abs32 wrap32 max_z min_z sizes_of measure_by size_by sized_by vector_of vector_by followed
reaches_measuring X = refl
reaches_measuring Y = refl

-- what is pushed is among the state: the same of both, along either axis
abbrev Measured : Axis → Ran → Type 0
Measured a r =
    (coordinates a r.world ≡ five (pos 40) (pos 168) (pos 40) (pos 64) (pos 0)) × (r.world.state.tallies.last_pushed ≡ pos 168) × (r.world.state.tallies.pushes ≡ 1)

pub measured : (a : Axis) → Measured a (run_of (glyph a here) measuring 5 0 (begun a here)) × Measured a (run_of (glyph a there) measuring 5 0 (begun a there))
unfolding run_of runOnEntry replay_of on_call entry_of rising_from fits glyph_fits twilight_fits pair_fits placed_fits usable_state vectors_in_range vector_in_range step_of on_decoded decode_of decode_by need_of line_of row_of set_of one two point_or fetch_in place_in made_in move_in laid_in apply_in fetch_of apply_of move_of step_by freedom_axis_by axis_of raw_fdotp not_small along_of from_origin step_from rounded_move_in with_rounding with_push related_by both_there control_by mdrp_of mdrp_distance mirp_of mirp_distance gc_of outline_of unscaled_apart originals_apart single_outline single_control on_side_of flipped_of finished rounded_unless at_least minimum_of mul_div half_up with_sign grid inward outward plus negated pastBits multiple_below add32 sub32 neg32 abs32 wrap32 max_z min_z sizes_of measure_by size_by sized_by vector_of vector_by followed
measured X = ((refl, refl, refl), (refl, refl, refl))
measured Y = ((refl, refl, refl), (refl, refl, refl))

-- ---- what stays across the axis
-- MDAP[1] of point 0, then IUP[y]
abbrev pub rising : List ℤ
rising = pos 47 ∷ pos 1 ∷ pos 0 ∷ pos 48 ∷ pos 0 ∷ []

-- points 0 and 2 have their x-touch mark
abbrev pub marked : World
marked = started vertical here heights (3 ∷ 1 ∷ 2 ∷ 0 ∷ 1 ∷ [])

pub reaches_rising : lines_reached (held here heights) rising 2 0 marked ≡ 47 ∷ 48 ∷ []
unfolding lines_reached reached_on_entry reached_from after_call entry_of rising_from fits glyph_fits twilight_fits pair_fits placed_fits usable_state vectors_in_range vector_in_range step_of on_decoded decode_of decode_by need_of line_of row_of set_of one two takeFive control_at point_or fetch_in made_in move_in laid_in apply_in put_touched outside_mdap mdap_of mdap_distance from_origin rounding_step grid along_of axis_of raw_fdotp not_small fetch_of apply_of move_of step_by freedom_axis_by add32 sub32 neg32 abs32 wrap32 max_z min_z multiple_below inward outward plus negated pastBits rounded_move_in step_from with_rounding marked_for iup_line_of iup_of walk_of contour_of points_of touched_places
reaches_rising = refl

-- every point rises, and point 0 is touched in y
pub rises :
    ((run_of (held here heights) rising 2 0 marked).world.gy ≡ raised)
    × ((run_of (held here heights) rising 2 0 marked).world.gflags ≡ 7 ∷ 1 ∷ 2 ∷ 0 ∷ 1 ∷ [])
unfolding run_of runOnEntry entry_of rising_from fits glyph_fits twilight_fits pair_fits placed_fits usable_state vectors_in_range vector_in_range replay_of step_of on_decoded on_call decode_of decode_by need_of line_of row_of set_of one two takeFive control_at point_or fetch_in made_in move_in laid_in apply_in put_touched outside_mdap mdap_of mdap_distance from_origin rounding_step grid along_of axis_of raw_fdotp not_small fetch_of apply_of move_of step_by freedom_axis_by add32 sub32 neg32 abs32 wrap32 max_z min_z multiple_below inward outward plus negated pastBits rounded_move_in step_from with_rounding marked_for iup_line_of iup_of walk_of contour_of points_of touched_places
rises = (refl, refl)

-- ---- an interpolation across
-- IUP[x], where point 0 was touched in x and moved from 0 to 7
abbrev sliding : List ℤ
sliding = pos 49 ∷ pos 0 ∷ []

abbrev moved : World
moved = started vertical there heights (2 ∷ 0 ∷ 0 ∷ 0 ∷ 0 ∷ [])

pub reaches_sliding : lines_reached (held here heights) sliding 1 0 moved ≡ 49 ∷ []
unfolding lines_reached reached_on_entry reached_from after_call entry_of rising_from fits glyph_fits twilight_fits pair_fits placed_fits usable_state vectors_in_range vector_in_range step_of on_decoded decode_of decode_by need_of line_of row_of set_of one two takeFive control_at point_or fetch_in made_in move_in laid_in apply_in put_touched outside_mdap marked_for iup_line_of iup_of walk_of contour_of points_of touched_places add32 sub32 wrap32
reaches_sliding = refl

-- it mixes no axes
pub slides_free :
    (none (mixes Y) (lines_reached (held here heights) sliding 1 0 moved) ≡ true)
    × (none (interpolates_across Y) (lines_reached (held here heights) sliding 1 0 moved) ≡ false)
slides_free = (ap (none (mixes Y)) reaches_sliding, ap (none (interpolates_across Y)) reaches_sliding)

-- all but point 0 move by 7
pub slides : (run_of (held here heights) sliding 1 0 moved).world.gx ≡ five (pos 7) (pos 4) (pos 107) (pos 7) (pos 71)
unfolding run_of runOnEntry entry_of rising_from fits glyph_fits twilight_fits pair_fits placed_fits usable_state vectors_in_range vector_in_range replay_of step_of on_decoded on_call decode_of decode_by need_of line_of row_of set_of one two takeFive control_at point_or fetch_in made_in move_in laid_in apply_in put_touched outside_mdap marked_for iup_line_of iup_of walk_of contour_of points_of touched_places add32 sub32 wrap32
slides = refl

-- ---- an intersection
-- line a from point 0 to 1, line b from 2 to 3, and point 4 put where they meet
abbrev crossing : List ℤ
crossing = pos 15 ∷ pos 5 ∷ pos 3 ∷ pos 2 ∷ pos 1 ∷ pos 0 ∷ pos 4 ∷ []

-- a upright at x, b from (-64, 0) to (64, 64)
abbrev upright : ℤ → List ℤ
upright x = five x x (negsuc 63) (pos 64) (pos 0)

abbrev height4 : Ran → List ℤ
height4 r = r.world.gy

pub mixed_by_isect :
    none (mixes Y) (lines_reached (held (upright (pos 0)) heights) crossing 1 0 (start (upright (pos 0)) heights)) ≡ false
unfolding lines_reached reached_on_entry reached_from entry_of rising_from fits glyph_fits twilight_fits pair_fits placed_fits usable_state vectors_in_range vector_in_range
mixed_by_isect = refl

pub differs_by_isect :
    height4 (run_of (held (upright (pos 0)) heights) crossing 1 0 (start (upright (pos 0)) heights))
    ∷ height4 (run_of (held (upright (pos 32)) heights) crossing 1 0 (start (upright (pos 32)) heights))
    ∷ []
    ≡ five (pos 40) (pos 100) (pos 0) (pos 64) (pos 32) ∷ five (pos 40) (pos 100) (pos 0) (pos 64) (pos 48) ∷ []
unfolding run_of runOnEntry entry_of rising_from fits glyph_fits twilight_fits pair_fits placed_fits usable_state vectors_in_range vector_in_range replay_of step_of on_decoded on_call decode_of decode_by need_of line_of row_of set_of one two takeFive control_at point_or fetch_in made_in move_in laid_in apply_in put_touched outside_mdap isect_of fetch_of crossing_of meet middle_by cross_of dot_of add32 sub32 neg32 abs32 mul32 quot32 mul_div half_up with_sign wrap32 moved_of
differs_by_isect = refl

-- ---- a vector along a line
-- SPVTL[0] from point 4 to point 2, whose heights are the same
abbrev lining : List ℤ
lining = pos 6 ∷ pos 2 ∷ pos 4 ∷ pos 2 ∷ []

pub mixed_by_line : none (mixes Y) (lines_reached (glyph Y here) lining 1 0 (begun Y here)) ≡ false
unfolding lines_reached reached_on_entry reached_from entry_of rising_from fits glyph_fits twilight_fits pair_fits placed_fits usable_state vectors_in_range vector_in_range
mixed_by_line = refl

-- leftward here, and rightward there
pub differs_by_line :
    ((run_of (glyph Y here) lining 1 0 (begun Y here)).world.state.vectors.projection ≡ record { x = negsuc 16383; y = pos 0 })
    × ((run_of (glyph Y there) lining 1 0 (begun Y there)).world.state.vectors.projection ≡ x_axis)
unfolding run_of runOnEntry entry_of rising_from fits glyph_fits twilight_fits pair_fits placed_fits usable_state vectors_in_range vector_in_range replay_of step_of on_decoded on_call decode_of decode_by need_of line_of row_of two point_or fetch_in fetch_of to_line_of along_at line_vector unit_of sub32 neg32 wrap32
differs_by_line = (refl, refl)

-- ---- a vector that is turned across
-- SPVTCA[x], then MDAP[1] of point 0: measured along x and moved along y
abbrev turning : List ℤ
turning = pos 3 ∷ pos 0 ∷ pos 47 ∷ pos 1 ∷ pos 0 ∷ []

pub mixed_by_turning :
    none (mixes Y) (lines_reached (held (upright (pos 0)) heights) turning 2 0 (start (upright (pos 0)) heights)) ≡ false
unfolding lines_reached reached_on_entry reached_from entry_of rising_from fits glyph_fits twilight_fits pair_fits placed_fits usable_state vectors_in_range vector_in_range
mixed_by_turning = refl

pub differs_by_turning :
    height4 (run_of (held (upright (pos 0)) heights) turning 2 0 (start (upright (pos 0)) heights))
    ∷ height4 (run_of (held (upright (pos 40)) heights) turning 2 0 (start (upright (pos 40)) heights))
    ∷ []
    ≡ heights ∷ five (pos 64) (pos 100) (pos 0) (pos 64) (pos 0) ∷ []
unfolding run_of runOnEntry entry_of rising_from fits glyph_fits twilight_fits pair_fits placed_fits usable_state vectors_in_range vector_in_range replay_of step_of on_decoded on_call decode_of decode_by need_of line_of row_of set_of one two takeFive control_at point_or fetch_in made_in move_in laid_in apply_in put_touched outside_mdap set_by vectors_by axis_by mdap_of mdap_distance from_origin rounding_step grid along_of axis_of raw_fdotp not_small fetch_of apply_of move_of step_by freedom_axis_by add32 sub32 neg32 abs32 mul32 mul_div half_up with_sign wrap32 max_z min_z multiple_below inward outward plus negated pastBits rounded_move_in step_from with_rounding
differs_by_turning = refl
