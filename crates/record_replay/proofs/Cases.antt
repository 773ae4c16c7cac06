-- A replay of a record by its parts: the lists that were loaded, and the verdict on the bytes. Assumes nothing.
use Rattle.std.specs.Prelude.{Ok, Err}
use mathlib.Core.List.{List, ◌++◌}
use mathlib.Core.Path.{◌∙◌, ◌≡◌, ap, ap₂, refl, subst, sym}
use Prim.Native.Nat.{◌≤◌, ℕ}
use native.Mathlib.Omega.{arith}
use lib.IntN.{ℤ}
use lib.ListN.{drop, length, take}
use lib.Seq.{take_at}
use Rattle.int.specs.Word.{of_bits}
use Rattle.words.proofs.Parts.{mapped_length}
use Rattle.words.specs.Lists.{end_of, ends_of, flag_of, flags_of, numbers_of}
use Rattle.graphics.specs.declared.GraphicsState.{GraphicsState}
use Rattle.rules.specs.declared.Rules.TheVariants.{FreeType}
use Rattle.rules.specs.declared.Rules.{Rules}
use Rattle.line.specs.World.{Fixed, World, fixed, world}
use Rattle.record_layout.specs.Order.{count_of, list_in, list_place}
use Rattle.record_layout.specs.declared.Layout.{Layout}
use Rattle.record_read.proofs.Editions.{kept_some}
use Rattle.record_read.proofs.Whole.{layout_is, layout_kept, sound}
use Rattle.record_read.specs.Format.{held, layout_for}
use Rattle.record_read.specs.Read.{fixed_in, held_in, layout_of, damage_number, open_of, read_as, trailer_word}
use Rattle.record_read.specs.declared.Damage.{Damage}
use Rattle.record_run.specs.After.{shelved, shelved_for}
use Rattle.record_replay.specs.Steps.{list_room, newest, point_room, twilight_room}
use Rattle.record_replay.specs.Shelf.{on_read, refused_as, shelf_within}

-- ---- the lists that were loaded
front : {A : Type 0} (f rest l : List A) {n m : ℕ} → n ≡ m → l ≡ f ++ rest → length f ≡ m → take n l ≡ f
front f rest l {n} {m} h e g = ap₂ take h e ∙ take_at f rest m g

-- the front of what a list was loaded to, by its number
pub numbers_front : (bytes : List ℕ) (l : Layout) (k : ℕ) {n : ℕ} (list z : List ℤ) → n ≡ count_of l k → list ≡ numbers_of (list_in bytes l k) ++ drop (count_of l k) z → take n list ≡ numbers_of (list_in bytes l k)
numbers_front bytes l k list z h e = front _ _ list h e (mapped_length of_bits bytes (list_place l k) (count_of l k))

pub flags_front : (bytes : List ℕ) (l : Layout) (k : ℕ) {n : ℕ} (list z : List ℕ) → n ≡ count_of l k → list ≡ flags_of (list_in bytes l k) ++ drop (count_of l k) z → take n list ≡ flags_of (list_in bytes l k)
flags_front bytes l k list z h e = front _ _ list h e (mapped_length flag_of bytes (list_place l k) (count_of l k))

pub ends_front : (bytes : List ℕ) (l : Layout) (k : ℕ) {n : ℕ} (list z : List ℕ) → n ≡ count_of l k → list ≡ ends_of (list_in bytes l k) ++ drop (count_of l k) z → take n list ≡ ends_of (list_in bytes l k)
ends_front bytes l k list z h e = front _ _ list h e (mapped_length end_of bytes (list_place l k) (count_of l k))

pub same_world : {s s' : GraphicsState} {gx gx' gy gy' : List ℤ} {gflags gflags' : List ℕ} {tox tox' toy toy' tx tx' ty ty' : List ℤ} {tflags tflags' : List ℕ}
    → s ≡ s' → gx ≡ gx' → gy ≡ gy' → gflags ≡ gflags' → tox ≡ tox' → toy ≡ toy' → tx ≡ tx' → ty ≡ ty' → tflags ≡ tflags'
    → world s gx gy gflags tox toy tx ty tflags ≡ world s' gx' gy' gflags' tox' toy' tx' ty' tflags'
same_world a b c d e f g h i = cc

pub same_fixed : {k k' ux ux' uy uy' ox ox' oy oy' : List ℤ} {c c' : List ℕ}
    → k ≡ k' → ux ≡ ux' → uy ≡ uy' → ox ≡ ox' → oy ≡ oy' → c ≡ c' → fixed FreeType k ux uy ox oy c ≡ fixed FreeType k' ux' uy' ox' oy' c'
same_fixed a b c d e f = cc

pub whole_held : (rules : Rules) (most : ℕ) (l : Layout) (bytes : List ℕ) (w : World) (out : List ℕ) {f : Fixed} {sheet : List ℤ} → f ≡ fixed_in bytes l → sheet ≡ (held_in bytes l).sheet → w ≡ (held_in bytes l).world
    → shelved_for rules most (newest l) (held f sheet w) out ≡ shelved_for rules most (newest l) (held_in bytes l) out
whole_held rules most l bytes w out e g h = ap (λ k. shelved_for rules most (newest l) k out) (ap₂ (λ f s. held f s w) e g ∙ ap (held (fixed_in bytes l) (held_in bytes l).sheet) h)

-- ---- the verdict
module _ (rules : Rules) (most : ℕ) (bytes out : List ℕ) where
  pub damaged : (why : Damage) → open_of bytes ≡ Err why → shelved (refused_as (damage_number why)) out ≡ shelf_within rules most bytes out
  unfolding shelf_within on_read
  damaged why e = sym (ap (λ o. on_read rules most out (read_as bytes o)) e)

  pub opened : (l : Layout) → open_of bytes ≡ Ok l → shelved_for rules most (newest l) (held_in bytes l) out ≡ shelf_within rules most bytes out
  unfolding shelf_within on_read
  opened l e = sym (ap (λ o. on_read rules most out (read_as bytes o)) e ∙ ap (λ m. shelved_for rules most m (held_in bytes l) out) (layout_kept bytes l))

-- a record's lists have no more words together than are between its state and its trailer
pub within : (bytes : List ℕ) (l : Layout) → open_of bytes ≡ Ok l → (l.points ≤ point_room) × ((l.contours ≤ list_room) × ((l.twilight ≤ twilight_room) × ((l.controls ≤ list_room) × (l.words ≤ list_room))))
within bytes l e =
    let s = sound bytes l e in
    let u = s.adds_up in
    let z = s.size_is in
    let k = kept_some (trailer_word bytes 5) s.kept_is in
    let m = layout_of bytes in
    let g = layout_is bytes l e in
    let p : m.points ≤ point_room = omega (arith, u, z, k) in
    let c : m.contours ≤ list_room = omega (arith, u, z, k) in
    let t : m.twilight ≤ twilight_room = omega (arith, u, z, k) in
    let v : m.controls ≤ list_room = omega (arith, u, z, k) in
    let w : m.words ≤ list_room = omega (arith, u, z, k) in
    subst (λ (n : Layout). (n.points ≤ point_room) × ((n.contours ≤ list_room) × ((n.twilight ≤ twilight_room) × ((n.controls ≤ list_room) × (n.words ≤ list_room))))) g (p, (c, (t, (v, w))))
