-- The colour of a distance, the two lowest bits of an opcode of MDRP and MIRP, changes nothing: the three bits above are those of the opcode without it.
-- Assumes nothing.
use mathlib.Core.Path.{◌≡◌, refl, ap}
use mathlib.Core.Bool.{Bool}
use Prim.Native.Nat.{ℕ, ◌-◌, ◌%◌, ◌/◌}
use native.Mathlib.Omega.{arith}
use lib.IntN.{ℤ}
use Rattle.line.specs.Operands.{is_odd}
use Rattle.round.specs.declared.RoundState.{RoundState}
use Rattle.line_distance.specs.Distance.{finished, keeps_minimum, rounds, sets_rp0}

-- an opcode with colour 0
abbrev pub colourless : ℕ → ℕ
colourless opcode = opcode - opcode % 4

module _ (opcode : ℕ) where
  pub colour_sets_rp0 : sets_rp0 (colourless opcode) ≡ sets_rp0 opcode
  colour_sets_rp0 = let e : colourless opcode / 16 ≡ opcode / 16 = omega arith in ap is_odd e

  pub colour_keeps_minimum : keeps_minimum (colourless opcode) ≡ keeps_minimum opcode
  colour_keeps_minimum = let e : colourless opcode / 8 ≡ opcode / 8 = omega arith in ap is_odd e

  pub colour_rounds : rounds (colourless opcode) ≡ rounds opcode
  colour_rounds = let e : colourless opcode / 4 ≡ opcode / 4 = omega arith in ap is_odd e

  pub colour_finished : (native : Bool) (round : RoundState) (minimum original d : ℤ) → finished (colourless opcode) native round minimum original d ≡ finished opcode native round minimum original d
  unfolding finished
  colour_finished native round minimum original d = rw (colour_rounds, colour_keeps_minimum) refl
