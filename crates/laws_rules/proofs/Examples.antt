-- A run that tells the rules apart, computed: MSIRP by 64 of twilight point 1 from twilight point 0. Assumes nothing.
use Prim.Native.Nat.{ℕ}
use mathlib.Core.Bool.{◌&&◌}
use mathlib.Core.List.{List, [], ◌∷◌}
use mathlib.Core.Path.{◌≡◌, refl}
use lib.IntN.{pos, ℤ}
use Rattle.contour_ends.specs.Ends.{rising_from}
use Rattle.graphics.specs.State.{all_zones, fresh_state, usable_state, vector_in_range, vectors_in_range, with_pointers}
use Rattle.graphics.specs.declared.ZonePointer.TheVariants.{Twilight}
use Rattle.int.specs.Word.{abs32, add32, mul32, neg32, sub32, wrap32}
use Rattle.line.specs.Places.{fetch_in, place_in}
use Rattle.line.specs.Sizes.{fits}
use Rattle.line.specs.World.{World, fixed, world}
use Rattle.line_msirp.specs.Msirp.{made_place, msirp_of}
use Rattle.line_relative.specs.Relative.{both_there, related_by}
use Rattle.line_steps.specs.Steps.{laid_in, made_in, move_in, point_or, two}
use Rattle.math.specs.Fixed.{half_up, mul_div, with_sign}
use Rattle.moves.specs.Apply.{apply_in, apply_of}
use Rattle.moves.specs.Move.{move_of, original_move_of, step_by}
use Rattle.opcodes.specs.Decode.{decode_by, decode_of}
use Rattle.opcodes.specs.Table.{line_of, need_of, row_of}
use Rattle.projection.specs.Projection.{along_of, axis_of, freedom_axis_by, not_small, raw_fdotp}
use Rattle.replay.specs.Run.{entry_of, on_entry, run_of}
use Rattle.rules.specs.declared.Rules.TheVariants.{FreeType, Skrifa}
use Rattle.rules.specs.declared.Rules.{Rules}
use Rattle.run_lines.specs.Onward.{on_call, replay_of}
use Rattle.run_step.specs.Step.{on_decoded, step_of}
use Rattle.zone.specs.Sizes.{glyph_fits, pair_fits, placed_fits, twilight_fits}
use Rattle.zone.specs.Zone.{fetch_of}

-- originals (1000, 500) and (7, 9), currents (1100, 500) and (1, 2), no glyph; the fresh state in the twilight zone, so that rp0 is point 0 and vectors lie along x
abbrev start : World
start =
    world (with_pointers fresh_state (all_zones Twilight)) [] [] []
    (pos 1000 ∷ pos 7 ∷ []) (pos 500 ∷ pos 9 ∷ []) (pos 1100 ∷ pos 1 ∷ []) (pos 500 ∷ pos 2 ∷ []) (0 ∷ 0 ∷ [])

abbrev sheet : List ℤ
sheet = pos 0x3A ∷ pos 2 ∷ pos 64 ∷ pos 1 ∷ []

abbrev left : Rules → World
left rules = (run_of (fixed rules [] [] [] [] [] []) sheet 1 0 start).world

-- what point 1 is then: original x and y, current x and y
abbrev Ends : World → ℤ → ℤ → ℤ → ℤ → Type 0
Ends w ox oy x y =
    (w.tox ≡ pos 1000 ∷ ox ∷ []) × (w.toy ≡ pos 500 ∷ oy ∷ []) × (w.tx ≡ pos 1100 ∷ x ∷ []) × (w.ty ≡ pos 500 ∷ y ∷ [])

pub told_apart : Ends (left FreeType) (pos 1064) (pos 500) (pos 1164) (pos 500) × Ends (left Skrifa) (pos 71) (pos 9) (pos 1164) (pos 9)
unfolding run_of on_entry entry_of rising_from fits glyph_fits twilight_fits pair_fits placed_fits usable_state vectors_in_range vector_in_range replay_of on_call step_of on_decoded decode_of decode_by need_of line_of row_of two point_or fetch_in fetch_of place_in made_in move_in laid_in apply_in apply_of msirp_of made_place both_there related_by original_move_of move_of step_by along_of axis_of freedom_axis_by raw_fdotp not_small add32 sub32 neg32 abs32 mul32 wrap32 mul_div half_up with_sign
told_apart = ((refl, refl, refl, refl), (refl, refl, refl, refl))
