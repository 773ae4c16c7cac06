-- Two worlds whose lists are as long. Assumes nothing.
use mathlib.Core.Path.{◌≡◌}
use lib.ListN.{length}
use Rattle.line.specs.World.{World}

-- every list of w as long as that of u
pub record Kept (u w : World) : Type 0 where
  pub gx : length w.gx ≡ length u.gx
  pub gy : length w.gy ≡ length u.gy
  pub gflags : length w.gflags ≡ length u.gflags
  pub tox : length w.tox ≡ length u.tox
  pub toy : length w.toy ≡ length u.toy
  pub tx : length w.tx ≡ length u.tx
  pub ty : length w.ty ≡ length u.ty
  pub tflags : length w.tflags ≡ length u.tflags
