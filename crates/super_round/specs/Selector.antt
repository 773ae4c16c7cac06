-- Super rounding from its selector: the OpenType instructions SROUND and S45ROUND, whose operand n has the period, the phase and the threshold in
-- bits 7 and 6, 5 and 4, and 3 to 0; and FreeType 2.13.3, ttinterp.c (Ins_SROUND, Ins_S45ROUND, SetSuperRound), which works in 2.14 and comes down
-- to 26.6 at the end. Document 02, K2: only the operand's low byte counts. OpenType reserves both bits of the period set; FreeType and the Rust
-- keep the grid's. One rule over every operand and both kinds. Assumes nothing.
use Rattle.std.specs.Prelude.{ℕ, ◌*◌, ◌/◌, ◌%◌, ◌^◌, Bool, true, false, cond, eqb, ℤ, pos, ◌-ℤ◌, ◌*ℤ◌}
use Rattle.std.specs.Int.Signed.{quot_z, shr_z}
use Rattle.int.specs.Word.{bits_of}
use Rattle.round.specs.declared.RoundMode.{RoundMode}
use Rattle.round.specs.declared.RoundMode.TheVariants.{Super, Super45}
use Rattle.round.specs.declared.RoundState.{RoundState}

-- whether the line is S45ROUND decides the mode, and the grid's period in 2.14: a pixel, and half a diagonal of one
abbrev pub super_mode : Bool → RoundMode
super_mode false = Super
super_mode true = Super45

abbrev pub grid_period : Bool → ℕ
grid_period false = 0x4000
grid_period true = 0x2D41

-- half the grid's period, once, twice; the reserved 3 is once
unfoldable pub period_by : ℕ → ℕ → ℕ
period_by grid field = cond (eqb field 0) (grid / 2) (cond (eqb field 2) (grid * 2) grid)

-- so many quarters of the period
unfoldable pub phase_by : ℕ → ℕ → ℕ
phase_by period field = period * field / 4

-- where the field is 0 the period less one, else field - 4 eighths of the period, toward zero
unfoldable pub threshold_by : ℕ → ℕ → ℤ
threshold_by period field = cond (eqb field 0) (pos period -ℤ pos 1) (quot_z ((pos field -ℤ pos 4) *ℤ pos period) (pos 8))

-- 26.6 of 2.14, rounded down
abbrev pub in_sixty_fourths : ℤ → ℤ
in_sixty_fourths z = shr_z z (2 ^ 8)

-- the state of a selector byte
unfoldable pub state_by : Bool → ℕ → RoundState
state_by diagonal selector =
    let period : ℕ = period_by (grid_period diagonal) (selector / 64) in
    record {
      mode = super_mode diagonal;
      threshold = in_sixty_fourths (threshold_by period (selector % 16));
      phase = in_sixty_fourths (pos (phase_by period (selector / 16 % 4)));
      period = in_sixty_fourths (pos period);
    }

-- the state that the line sets
abbrev pub super_of : Bool → ℤ → RoundState
super_of diagonal word = state_by diagonal (bits_of word % 256)
