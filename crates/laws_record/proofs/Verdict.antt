-- What is known of what is read, whatever the verdict on the byte string was: `whence`. Assumes nothing.
use Rattle.std.specs.Prelude.{Result, Ok, Err}
use Rattle.record_layout.specs.declared.Layout.{Layout}
use Rattle.record_read.specs.declared.Damage.{Damage}
use mathlib.Core.List.{List}
use mathlib.Core.Path.{◌≡◌, refl, subst}
use Prim.Native.Nat.{ℕ}
use Rattle.record_read.specs.Format.{Held}
use Rattle.record_read.specs.Read.{held_in, open_of, read_as, read_of}
use Rattle.record_read.specs.Read.Read.{Kept}
use Rattle.laws_record.proofs.Whence.{Whence, refused_or_kept, whence_whole}

by_verdict : (bytes : List ℕ) (h : Held) (o : Result Layout Damage) → open_of bytes ≡ o → read_as bytes o ≡ Kept h → Whence bytes h
by_verdict bytes h (Ok l) e k = let g : held_in bytes l ≡ h = cc k in subst (Whence bytes) g (whence_whole bytes l e)
by_verdict bytes h (Err why) e k = absurd (refused_or_kept k)

pub whence : (bytes : List ℕ) (h : Held) → read_of bytes ≡ Kept h → Whence bytes h
whence bytes h e = by_verdict bytes h (open_of bytes) refl e
