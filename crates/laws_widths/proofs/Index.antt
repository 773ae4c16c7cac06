-- An operand as an index is in its width. Assumes nothing.
use Prim.Native.Nat.{◌<◌, ◌^◌}
use lib.IntN.{ℤ}
use mir.Facts.{Fits-of_z}
use mir.Syntax.{w32}
use mir.Val.{SFits}
use Rattle.int.proofs.Words.{wide_fits}
use Rattle.int.specs.Word.{index_of}

pub index_fits : {z : ℤ} → SFits w32 z → index_of z < 2 ^ 64
index_fits f = (Fits-of_z (wide_fits f)).fits
