-- The sample's replay leaves another record, which reads back as that. Assumes nothing.
use mathlib.Core.Path.{◌∙◌, ◌≡◌, ap, sym}
use Prim.Native.Nat.{ℕ}
use native.Mathlib.Omega.{arith}
use lib.IntN.{pos}
use Rattle.rules.specs.declared.Rules.TheVariants.{FreeType}
use Rattle.line.specs.World.{World}
use Rattle.laws_run.proofs.Numbers.{heights, three}
use Rattle.record_read.specs.Format.{Held, record_of}
use Rattle.record_read.specs.Read.{read_of}
use Rattle.record_read.specs.Read.Read.{Kept}
use Rattle.laws_record.proofs.Round.{record_bytes, record_long}
use Rattle.record_run.specs.After.{after}
use Rattle.record_replay.specs.Shelf.{shelf_of}
use Rattle.laws_shelf.proofs.Reread.{replayed_reads}
use Rattle.laws_shelf.proofs.Written.{written}
use Rattle.laws_shelf.proofs.Sample.{sample, sample_after, sample_keepable, sample_reads}

-- which leaves another record
pub sample_moves : after FreeType sample ≡ sample → ⊥
sample_moves e =
    let y : three (pos 64) (pos 124) (pos 154) ≡ heights = ap (λ (w : World). w.gy) (sym sample_after) ∙ ap (λ (h : Held). h.world.gy) e in
    let z : ◌≡◌ {A = ℕ} 64 40 = cc y in
    omega arith

-- and reads back as that, written over the first
pub sample_replayed : read_of (written (shelf_of FreeType (record_of sample) (record_of sample))) ≡ Kept (after FreeType sample)
sample_replayed = replayed_reads FreeType (record_of sample) (record_of sample) sample (record_bytes sample) sample_reads (omega arith) (omega (arith, record_long sample sample_keepable))
