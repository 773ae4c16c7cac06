-- Feeds computed call by call: what each call says in numbers, and how the last ends. Assumes nothing.
use mathlib.Core.Bool.{false, true}
use mathlib.Core.List.{List, [], ◌∷◌}
use mathlib.Core.Path.{◌≡◌, refl}
use Prim.Native.Nat.{ℕ}
use lib.IntN.{negsuc, pos, ℤ}
use native.Mathlib.Omega.{arith}
use lib.ListN.{length-replicate, replicate}
use Rattle.contour_ends.specs.Ends.{rising_from}
use Rattle.feed.specs.Feed.{Left, after_call, end_of, ended_on_entry, fed_on_entry, feed_of, on_seen, push_by}
use Rattle.feed_carry.specs.Carry.{detail_of_said, carry_has_room, said_is_open, number_of_said, waits}
use Rattle.feed_carry.specs.declared.Said.TheVariants.{Ended, Open}
use Rattle.feed_look.specs.Look.{long_by, look_by}
use Rattle.graphics.specs.State.{usable_state, vector_in_range, vectors_in_range, with_rounding, x_axis, y_axis}
use Rattle.int.specs.Word.{abs32, add32, and32, max_z, min_z, neg32, sub32, wrap32}
use Rattle.iup.specs.Contour.{along, between, contour_of, inside, points_of, spread, touched_places}
use Rattle.iup.specs.Iup.{iup_of, sizes_fit, tried_of, walk_of}
use Rattle.laws_run.proofs.Numbers.{at_first, flags, glyph, holding, state_with, three, whole}
use Rattle.limits.specs.Limits.{most_words}
use Rattle.line.specs.Places.{fetch_in}
use Rattle.line.specs.Sizes.{fits}
use Rattle.line_iup.specs.Iup.{iup_line_of, marked_for}
use Rattle.line_mdap.specs.Mdap.{mdap_distance, mdap_of, outside_mdap, rounding_step}
use Rattle.line_set.specs.Setters.{axis_by, set_by, set_of, vectors_by}
use Rattle.line_steps.specs.Numbers.{from_origin, step_from}
use Rattle.line_steps.specs.Steps.{laid_in, move_in, one, point_or, rounded_move_in}
use Rattle.math.specs.Fixed.{dot_fix14, half_away14, half_up, mul_div, mul_fix14, multiple_below, pad_floor, with_sign}
use Rattle.moves.specs.Apply.{apply_in, apply_of}
use Rattle.moves.specs.Move.{move_of, step_by}
use Rattle.opcodes.specs.Decode.{decode_by, decode_of}
use Rattle.opcodes.specs.Table.{line_of, need_of, row_of}
use Rattle.projection.specs.Projection.{along_of, axis_of, freedom_axis_by, not_small, raw_fdotp}
use Rattle.replay.specs.Run.{entry_of, on_entry, run_of}
use Rattle.round.specs.Round.{grid, inward, keep_down, keep_up, outward, period_floor}
use Rattle.round.specs.Tracked.{minus, negated, past as pastBits, plus}
use Rattle.run_lines.specs.Onward.{on_call, replay_of}
use Rattle.run_step.specs.Step.{on_decoded, step_of}
use Rattle.zone.specs.Sizes.{glyph_fits, pair_fits, placed_fits, twilight_fits}
use Rattle.zone.specs.Zone.{fetch_of}
use Rattle.laws_feed.specs.Cutting.{counts_short, ending, ending_of, ending_of_run, fed_end, fed_piece, fed_pieces, on_done, reads_short, short_on_entry, started}
use Rattle.laws_feed.proofs.Whole.{whole as any-cut}

-- answer, place, lines and detail
abbrev numbers : Left → ℕ × ℕ × ℕ × ℕ
numbers l = (number_of_said l.said, l.base, l.lines, detail_of_said l.said)

-- of every call, the last too
abbrev says : Left → List (List ℤ) → List (ℕ × ℕ × ℕ × ℕ)
says l [] = numbers (fed_end glyph l) ∷ []
says l (piece ∷ pieces) = numbers (fed_piece glyph l piece) ∷ says (fed_piece glyph l piece) pieces

-- from the fresh state, with a carry of zeros
abbrev begun : Left
begun = started (replicate 4098 (pos 0)) (at_first (state_with x_axis 0 0 0 false))

abbrev fed : List (List ℤ) → List (ℕ × ℕ × ℕ × ℕ)
fed pieces = says begun pieces

-- SVTCA[y], MDAP[1] of point 0, IUP[y]: 0 0, 47 1 0, 48 0, cut within each of the first two lines, with an empty piece in between
abbrev cut : List (List ℤ)
cut = (pos 0 ∷ []) ∷ (pos 0 ∷ pos 47 ∷ pos 1 ∷ []) ∷ [] ∷ (pos 0 ∷ pos 48 ∷ pos 0 ∷ []) ∷ []

pub record Computed : Type 0 where
  -- the call says 1 at the unfinished line, and counts the lines it finished
  pub in_pieces : fed cut ≡ (1, 0, 0, 0) ∷ (1, 2, 1, 0) ∷ (1, 2, 0, 0) ∷ (1, 7, 2, 0) ∷ (0, 7, 0, 0) ∷ []
  pub ends_so : ending_of (fed_pieces glyph begun cut) ≡ ending Ended 7 (holding (state_with y_axis 0 0 0 false) (three (pos 64) (pos 124) (pos 154)) (flags 5 1 1))
  -- the run reads counts of 0, 1 and 0
  pub reads_short_lem : reads_short glyph whole 7 (at_first (state_with x_axis 0 0 0 false)) ≡ true
  -- no piece at all
  pub nothing : fed [] ≡ (0, 0, 0, 0) ∷ []
  -- 256 is no opcode: 4 at its own word, before a count has come; and every later call repeats it
  pub bad_opcode : fed ((pos 0 ∷ pos 0 ∷ pos 256 ∷ []) ∷ (pos 0 ∷ []) ∷ []) ≡ (4, 2, 1, 0) ∷ (4, 2, 1, 0) ∷ (4, 2, 1, 0) ∷ []
  -- a count below zero is 4 at the count word, one above 4,096 is 18 there, and one of 4,096 waits
  pub below_zero : fed ((pos 47 ∷ []) ∷ (negsuc 0 ∷ []) ∷ []) ≡ (1, 0, 0, 0) ∷ (4, 0, 0, 0) ∷ (4, 0, 0, 0) ∷ []
  pub too_long : fed ((pos 47 ∷ []) ∷ (pos 4097 ∷ []) ∷ []) ≡ (1, 0, 0, 0) ∷ (18, 0, 0, 0) ∷ (18, 0, 0, 0) ∷ []
  pub not_long : fed ((pos 47 ∷ pos 4096 ∷ []) ∷ []) ≡ (1, 0, 0, 0) ∷ (4, 0, 0, 0) ∷ []
  -- an opcode that is none comes before its count
  pub four_first : fed ((pos 256 ∷ pos 4097 ∷ []) ∷ []) ≡ (4, 0, 0, 0) ∷ (4, 0, 0, 0) ∷ []
  -- MDAP takes one operand: two are 5 once both are in, and 4 where the second doesn't come
  pub surplus : fed ((pos 47 ∷ pos 2 ∷ pos 0 ∷ []) ∷ (pos 0 ∷ []) ∷ []) ≡ (1, 0, 0, 0) ∷ (5, 0, 0, 0) ∷ (5, 0, 0, 0) ∷ []
  pub unfinished : fed ((pos 47 ∷ pos 2 ∷ pos 0 ∷ []) ∷ []) ≡ (1, 0, 0, 0) ∷ (4, 0, 0, 0) ∷ []
  -- a word beyond the sheet limit: 2, the place that of the next line
  pub beyond : numbers (fed_piece glyph (record { said = Open; base = most_words; held = 0; lines = 3; carry = begun.carry; world = begun.world }) (pos 0 ∷ []))
      ≡ (2, most_words, 0, 0)

pub computed : Computed
unfolding run_of on_entry entry_of rising_from fits glyph_fits twilight_fits pair_fits placed_fits usable_state vectors_in_range vector_in_range replay_of step_of on_decoded on_call decode_of decode_by need_of line_of row_of set_of set_by vectors_by axis_by one point_or fetch_in move_in laid_in apply_in mdap_of mdap_distance outside_mdap from_origin rounding_step grid along_of axis_of raw_fdotp not_small fetch_of apply_of move_of step_by freedom_axis_by iup_line_of marked_for iup_of walk_of contour_of points_of touched_places spread between along inside add32 sub32 neg32 abs32 max_z min_z and32 mul_div mul_fix14 dot_fix14 half_away14 half_up with_sign wrap32 keep_up keep_down pad_floor multiple_below period_floor inward outward plus minus negated pastBits rounded_move_in step_from with_rounding tried_of sizes_fit feed_of fed_on_entry end_of ended_on_entry carry_has_room said_is_open waits look_by long_by push_by on_seen after_call counts_short on_done short_on_entry
computed = record {
  in_pieces = refl;
  ends_so = refl;
  reads_short_lem = refl;
  nothing = refl;
  bad_opcode = refl;
  below_zero = refl;
  too_long = refl;
  not_long = refl;
  four_first = refl;
  surplus = refl;
  unfinished = refl;
  beyond = refl;
}

-- so that the theorem says it is one run
pub as_one_run : ending_of (fed_pieces glyph begun cut) ≡ ending_of_run (run_of glyph whole 7 0 (at_first (state_with x_axis 0 0 0 false)))
as_one_run =
    any-cut glyph (replicate 4098 (pos 0)) (at_first (state_with x_axis 0 0 0 false)) (omega (arith, length-replicate 4098 (pos 0))) cut (omega arith) 7 (omega arith)
    computed.reads_short_lem
