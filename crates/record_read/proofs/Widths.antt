-- What it is for a value to be within its width: signed words of 32 bits, flags of 8, contours' ends of 16, references of 64. A machine that
-- holds these values says so of them by itself; definitions over ℤ and ℕ don't. Assumes nothing.
use Prim.Native.Nat.{◌<◌, ◌^◌}
use Rattle.graphics.specs.declared.GraphicsState.{GraphicsState}
use Rattle.state_words.proofs.Back.{StateFits}
use Rattle.words.proofs.Widths.{Below, Numbers}
use Rattle.line.specs.World.{Fixed, World}
use Rattle.record_read.specs.Format.{Held}

pub record StateInWidth (s : GraphicsState) : Type 0 where
  pub signed : StateFits s
  pub loop : s.loop_counter < 2 ^ 32
  pub rp0 : s.references.rp0 < 2 ^ 64
  pub rp1 : s.references.rp1 < 2 ^ 64
  pub rp2 : s.references.rp2 < 2 ^ 64
  pub wrapped : s.tallies.wrapped_roundings < 2 ^ 32
  pub pushes : s.tallies.pushes < 2 ^ 32

-- what lines change
pub record InWidth (w : World) : Type 0 where
  pub state : StateInWidth w.state
  pub gx : Numbers w.gx
  pub gy : Numbers w.gy
  pub gflags : Below 256 w.gflags
  pub tox : Numbers w.tox
  pub toy : Numbers w.toy
  pub tx : Numbers w.tx
  pub ty : Numbers w.ty
  pub tflags : Below 256 w.tflags

-- what they only read
pub record FixedInWidth (f : Fixed) : Type 0 where
  pub controls : Numbers f.controls
  pub gux : Numbers f.gux
  pub guy : Numbers f.guy
  pub gox : Numbers f.gox
  pub goy : Numbers f.goy
  pub contours : Below 65536 f.contours

-- all that a record holds
pub record HeldInWidth (h : Held) : Type 0 where
  pub fixed : FixedInWidth h.fixed
  pub sheet : Numbers h.sheet
  pub world : InWidth h.world
