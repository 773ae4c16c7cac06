-- `feed_arriving::feed_arriving` meets its contract. The invariant: what was fed so far, with the piece that is still to be fed, is what the blocks so far
-- come to, and no list has changed its length. Assumes nothing.
use mathlib.Core.Bool.{true}
use mathlib.Core.List.{List}
use mathlib.Core.Path.{◌≡◌}
use Prim.Native.Nat.{ℕ}
use lib.IntN.{ℤ}
use lib.ListN.{length, take}
use Rattle.rules.specs.declared.Rules.TheVariants.{FreeType}
use Rattle.graphics.specs.declared.GraphicsState.{GraphicsState}
use Rattle.line.specs.World.{Fixed, fixed, under, world}
use Rattle.feed_carry.specs.Carry.{fresh}
use Rattle.feed_carry.specs.declared.Fed.{Fed}
use Rattle.feed_blocks.specs.declared.Next.{Next}
use Rattle.feed.specs.Feed.{Left, left}
use Rattle.record_read.specs.Format.{held}
use Rattle.feed_arriving.specs.Arriving.{Arrived, at_first}
use Rattle.feed_arriving.proofs.Loop.{Arriving}
use Rattle.feed_arriving.proofs.feed_arriving.Given as goal

-- no list has changed its length
pub record Same (block₀ block : List ℕ) (words₀ words : List ℤ) (carry₀ carry : List ℤ) (gx₀ gx : List ℤ) (gy₀ gy : List ℤ) (gflags₀ gflags : List ℕ) (tox₀ tox : List ℤ) (toy₀ toy : List ℤ) (tx₀ tx : List ℤ) (ty₀ ty : List ℤ) (tflags₀ tflags : List ℕ) : Type 0 where
  pub block_long : length block ≡ length block₀
  pub words_long : length words ≡ length words₀
  pub carry_long : length carry ≡ length carry₀
  pub gx_long : length gx ≡ length gx₀
  pub gy_long : length gy ≡ length gy₀
  pub gflags_long : length gflags ≡ length gflags₀
  pub tox_long : length tox ≡ length tox₀
  pub toy_long : length toy ≡ length toy₀
  pub tx_long : length tx ≡ length tx₀
  pub ty_long : length ty ≡ length ty₀
  pub tflags_long : length tflags ≡ length tflags₀

pub record Inv (f : Fixed) (first : GraphicsState → Arrived) (c₀ : Fed) (next : Next) (block : List ℕ) (words : List ℤ) (lines : ℕ) (l : Left) (same : Type 0) : Type 0 where
  pub arriving : (s : GraphicsState) → c₀ ≡ fresh s → Arriving f (first s) next block words lines l
  pub pending : next.more ≡ true
  pub kept_long : same

abbrev pub invariant-loop : goal.invariant-loop
invariant-loop l = let g = fixed FreeType l.controls l.gux l.guy l.gox l.goy l.contours in
    Inv (under l.rules g) (λ (s : GraphicsState). at_first (under l.rules g) l.initial.carry (held g (take l.first l.initial.words) (world s l.initial.gx l.initial.gy l.initial.gflags l.initial.tox l.initial.toy l.initial.tx l.initial.ty l.initial.tflags))) l.initial.c l.next l.block l.words l.lines
    (left l.c l.carry l.gx l.gy l.gflags l.tox l.toy l.tx l.ty l.tflags)
    (Same l.initial.block l.block l.initial.words l.words l.initial.carry l.carry l.initial.gx l.gx l.initial.gy l.gy l.initial.gflags l.gflags l.initial.tox l.tox l.initial.toy l.toy l.initial.tx l.tx l.initial.ty l.ty l.initial.tflags l.tflags)
