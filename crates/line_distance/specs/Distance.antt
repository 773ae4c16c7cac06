-- The distances that MIAP, MDRP and MIRP bring a point to: OpenType's control value cut-in, single width, auto flip and minimum distance, and FreeType
-- 2.13.3, ttinterp.c (Ins_MIAP, Ins_MDRP, Ins_MIRP), on words that wrap. The native ClearType fact is docs/src's: under it no line rounds, the cut-in is a
-- sixteenth and the minimum distance a half. The Rust decides where sums wrap in the two tests of the single width. Assumes nothing.
use Rattle.std.specs.Prelude.{Bool, ◌&&◌, cond, not, ℕ, ◌/◌, ◌^◌, ℤ, pos}
use Rattle.std.specs.Int.Signed.{lt_z, non_neg, shr_z}
use Rattle.int.specs.Word.{abs32, add32, max_z, min_z, neg32, sub32}
use Rattle.line.specs.Operands.{is_odd}
use Rattle.round.specs.Round.{rounding}
use Rattle.round.specs.Tracked.{given, on}
use Rattle.round.specs.declared.Tracked.{Tracked}
use Rattle.round.specs.declared.RoundState.{RoundState}

-- ---- what an opcode of MDRP and MIRP says, [abcde]: d and e are the colour of the distance, for an engine that compensates by it, and change nothing here
-- a: the point becomes rp0
abbrev pub sets_rp0 : ℕ → Bool
sets_rp0 opcode = is_odd (opcode / 16)

-- b: no nearer than the minimum distance
abbrev pub keeps_minimum : ℕ → Bool
keeps_minimum opcode = is_odd (opcode / 8)

-- c: rounded, and MIRP's by the cut-in
abbrev pub rounds : ℕ → Bool
rounds opcode = is_odd (opcode / 4)

-- ---- the control value or the outline's distance
-- the cut-in, a sixteenth under native ClearType: rounded down
unfoldable pub cut_in_of : Bool → ℤ → ℤ
cut_in_of native cut_in = cond native (shr_z cut_in (2 ^ 4)) cut_in

-- the outline's own distance where the control value lies further away than the cut-in; the absolute value of -2 ^ 31 stays below every cut-in
unfoldable pub chosen_of : ℤ → ℤ → ℤ → ℤ
chosen_of cut_in control own = cond (lt_z cut_in (abs32 (sub32 control own))) own control

-- ---- the single width
-- on the distance's side of 0
unfoldable pub on_side_of : ℤ → ℤ → ℤ
on_side_of d width = cond (non_neg d) width (neg32 width)

-- MDRP's: a distance within the cut-in of it, on either side; no cut-in from 0 down has any
unfoldable pub single_outline : ℤ → ℤ → ℤ → ℤ
single_outline cut_in width d =
    cond (lt_z (pos 0) cut_in && lt_z d (add32 width cut_in) && lt_z (sub32 width cut_in) d) (on_side_of d width) d

-- MIRP's: a control value within the cut-in of it; the absolute value of -2 ^ 31 is within every one but the least
unfoldable pub single_control : ℤ → ℤ → ℤ → ℤ
single_control cut_in width d = cond (lt_z (abs32 (sub32 d width)) cut_in) (on_side_of d width) d

-- ---- auto flip: a control value takes the sign of the outline's distance
unfoldable pub flipped_of : Bool → ℤ → ℤ → ℤ
flipped_of auto original control = cond (auto && cond (non_neg original) (not (non_neg control)) (non_neg control)) (neg32 control) control

-- ---- rounding
unfoldable pub rounded_unless : Bool → RoundState → ℤ → Tracked
rounded_unless native round d = cond native (given d) (rounding round d)

-- ---- the minimum distance, a half under native ClearType: rounded down
unfoldable pub minimum_of : Bool → ℤ → ℤ
minimum_of native minimum = cond native (shr_z minimum 2) minimum

-- no nearer to 0 than the minimum, on the side of 0 that the outline's distance is on
unfoldable pub at_least : ℤ → ℤ → ℤ → ℤ
at_least minimum original d = cond (non_neg original) (max_z d minimum) (min_z d (neg32 minimum))

-- ---- MDRP's and MIRP's last steps: rounded, then no nearer than the minimum
unfoldable pub finished : ℕ → Bool → RoundState → ℤ → ℤ → ℤ → Tracked
finished opcode native round minimum original d =
    let r = cond (rounds opcode) (rounded_unless native round d) (given d) in
    cond (keeps_minimum opcode) (on (at_least (minimum_of native minimum) original) r) r
