-- What is known of what is read: it is within document 01's sizes, and its record is as long as the byte string, but for the words of the state that an older
-- edition hasn't: `Whence`, of a byte string that is whole. Assumes nothing.
use Rattle.std.specs.Prelude.{Ok}
use mathlib.Core.Bool.{Bool, ◌&&◌, true}
use mathlib.Core.List.{List}
use mathlib.Core.Path.{◌∙◌, ◌≡◌, ap, ap₂, refl, subst, sym}
use Prim.Native.Nat.{◌*◌, ◌+◌, ◌≤◌, ℕ}
use native.Mathlib.Omega.{arith}
use borrow.Author.Tests.{eq-eqb, le-leb, leb-true}
use lib.Dec.{eqb, leb}
use lib.IntN.{ℤ}
use lib.ListN.{length}
use Rattle.graphics.proofs.Laws.{and_left, and_right}
use Rattle.int.specs.Word.{of_bits}
use Rattle.limits.specs.Limits.{most_contours, most_control_values, most_points, most_words}
use Rattle.zone.specs.Sizes.{glyph_fits, pair_fits, placed_fits, twilight_fits}
use Rattle.line.specs.Sizes.{fits, world_fits}
use Rattle.words.proofs.Parts.{mapped_length}
use Rattle.words.specs.Lists.{end_of, ends_of, flag_of, flags_of, numbers_of, part}
use Rattle.record_layout.specs.Order.{edition, list_place, most_bytes, record_size}
use Rattle.record_layout.specs.declared.Layout.{Layout}
use Rattle.state_words.specs.Words.{state_size}
use Rattle.record_read.proofs.Editions.{kept_some}
use Rattle.record_read.proofs.Whole.{layout_is, layout_kept, sound}
use Rattle.record_read.specs.Format.{Held, layout_for}
use Rattle.record_read.specs.Read.{counts_fit, held_in, kept_by, kept_in, layout_of, open_of, read_as, read_of, trailer_word}
use Rattle.record_read.specs.Read.Read.{Kept, Refused}

pub both : {a c : Bool} → a ≡ true → c ≡ true → a && c ≡ true
both e g = ap₂ (λ (x y : Bool). x && y) e g

-- ---- what is read is within the sizes
module _ (bytes : List ℕ) where
  abbrev nums : ℕ → ℕ → List ℤ
  nums at n = numbers_of (part bytes at n)

  abbrev flags : ℕ → ℕ → List ℕ
  flags at n = flags_of (part bytes at n)

  same : (a b n : ℕ) → eqb (length (nums a n)) (length (nums b n)) ≡ true
  same a b n = eq-eqb (length (nums a n)) (length (nums b n)) (mapped_length of_bits bytes a n ∙ sym (mapped_length of_bits bytes b n))

  least : (a n most : ℕ) → n ≤ most → leb (length (nums a n)) most ≡ true
  least a n most h = le-leb (length (nums a n)) most (omega (arith, mapped_length of_bits bytes a n, h))

  pair : (a b n : ℕ) → n ≤ most_points → pair_fits (nums a n) (nums b n) ≡ true
  unfolding pair_fits
  pair a b n h = both (same b a n) (least a n most_points h)

  marked : (a b c n : ℕ) → n ≤ most_points → placed_fits (nums a n) (nums b n) (flags c n) ≡ true
  unfolding placed_fits
  marked a b c n h = both (eq-eqb (length (flags c n)) (length (nums a n)) (mapped_length flag_of bytes c n ∙ sym (mapped_length of_bits bytes a n))) (pair a b n h)

  five : (o p a b c n : ℕ) → n ≤ most_points → twilight_fits (nums o n) (nums p n) (nums a n) (nums b n) (flags c n) ≡ true
  unfolding twilight_fits
  five o p a b c n h = both (both (same o a n) (pair o p n h)) (marked a b c n h)

  eight : (u v o p a b c e n k : ℕ) → n ≤ most_points → k ≤ most_contours
      → glyph_fits (nums u n) (nums v n) (nums o n) (nums p n) (nums a n) (nums b n) (flags c n) (ends_of (part bytes e k)) ≡ true
  unfolding glyph_fits
  eight u v o p a b c e n k h g =
      both (both (both (same u a n) (pair u v n h)) (five o p a b c n h))
      (le-leb (length (ends_of (part bytes e k))) most_contours (omega (arith, mapped_length end_of bytes e k, g)))

  read_fits : (l : Layout) → counts_fit l ≡ true → world_fits (held_in bytes l).fixed (held_in bytes l).sheet (held_in bytes l).world ≡ true
  unfolding fits
  read_fits l e =
      let four = and_left (leb l.points most_points && leb l.contours most_contours && leb l.twilight most_points && leb l.controls most_control_values) (leb l.words most_words) e in
      let three = and_left (leb l.points most_points && leb l.contours most_contours && leb l.twilight most_points) (leb l.controls most_control_values) four in
      let two = and_left (leb l.points most_points && leb l.contours most_contours) (leb l.twilight most_points) three in
      let n = leb-true l.points most_points (and_left (leb l.points most_points) (leb l.contours most_contours) two) in
      let k = leb-true l.contours most_contours (and_right (leb l.points most_points) (leb l.contours most_contours) two) in
      let m = leb-true l.twilight most_points (and_right (leb l.points most_points && leb l.contours most_contours) (leb l.twilight most_points) three) in
      let v =
      leb-true l.controls most_control_values
      (and_right (leb l.points most_points && leb l.contours most_contours && leb l.twilight most_points) (leb l.controls most_control_values) four) in
      let w =
      leb-true l.words most_words
      (and_right (leb l.points most_points && leb l.contours most_contours && leb l.twilight most_points && leb l.controls most_control_values) (leb l.words most_words) e) in
      both
      (both
      (both (eight (list_place l 0) (list_place l 1) (list_place l 2) (list_place l 3) (list_place l 4) (list_place l 5) (list_place l 6) (list_place l 7) l.points l.contours n k)
      (five (list_place l 8) (list_place l 9) (list_place l 10) (list_place l 11) (list_place l 12) l.twilight m))
      (least (list_place l 13) l.controls most_control_values v))
      (least (list_place l 14) l.words most_words w)

-- what a byte string holds, where it is read
pub record Whence (bytes : List ℕ) (h : Held) : Type 0 where
  pub fit : world_fits h.fixed h.sheet h.world ≡ true
  pub size : record_size (layout_for h) + kept_in bytes * 4 ≡ length bytes + state_size * 4
  pub some : 26 ≤ kept_in bytes
  pub short : length bytes ≤ most_bytes

pub whence_whole : (bytes : List ℕ) (l : Layout) → open_of bytes ≡ Ok l → Whence bytes (held_in bytes l)
whence_whole bytes l e =
    let m = layout_of bytes in
    let s = sound bytes l e in
    let same_size : record_size (layout_for (held_in bytes m)) + kept_in bytes * 4 ≡ length bytes + state_size * 4 = omega (arith, ap record_size (layout_kept bytes m), s.adds_up, s.length_is) in
    subst (λ (n : Layout). Whence bytes (held_in bytes n)) (layout_is bytes l e) (record { fit = read_fits bytes m s.counts_fit_lem; size = same_size; some = kept_some (trailer_word bytes 5) s.kept_is; short = s.size_is })

pub refused_or_kept : {n : ℕ} {h : Held} → Refused n ≡ Kept h → ⊥
refused_or_kept e = let z : ◌≡◌ {A = ℕ} 0 1 = cc in omega arith
